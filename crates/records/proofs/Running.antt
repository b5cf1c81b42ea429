-- Dropping the first records of each key, whole runs at a time.
use Rattle.std.proofs.Common.{◌≡◌, ℕ, zero, suc, ◌+◌, ◌-◌, ◌<◌, ◌≤◌, true, nat_lt, List, [], ◌∷◌, ◌++◌, length, get_or, take, drop, sym, refl, ap, ◌∙◌, subst, append_assoc, add-zero, arith}
use Rattle.std.proofs.lemmas.Bool.{cond-false}
use Rattle.std.proofs.lemmas.List.{drop-drop, drop-take, drop_more, take-take, length-drop, length-take-le, get_or-take, get_or-drop}
use Rattle.std.proofs.lemmas.List.Edits.{length-paste, take-paste, drop-paste}
use Rattle.std.proofs.Math.Seq.{take-add, paste}
use Rattle.std.specs.List.{copy_within}
use Rattle.records.proofs.Dropping.{first_goes}
use Rattle.records.specs.PerKeys.{one_less}
use Rattle.records.specs.Records.{drop_firsts, no_record}
use Rattle.records.specs.declared.record.Record.{Record}

-- a run of which nothing goes stays whole
run_stays : (e : ℕ → ℕ) (n : ℕ) (rs : List Record) → n ≤ length rs → ((i : ℕ) → i < n → e (get_or rs i no_record).key ≡ 0) → drop_firsts e rs ≡ take n rs ++ drop_firsts e (drop n rs)
run_stays e zero rs le none = refl
run_stays e (suc n) [] le none = absurd (omega arith)
run_stays e (suc n) (r ∷ rs) le none =
    cond-false (nat_lt 0 (e r.key)) _ _ (ap (λ k. nat_lt 0 k) (none 0 (omega arith)))
    ∙ ap (λ xs. r ∷ xs) (run_stays e n rs (omega arith) (λ i lt. none (suc i) (omega arith)))

-- of rs, the first `kept` of which count, those before `from` were looked at; what stays of them stands at the front of xs
pub record Ran (before : ℕ → ℕ) (rs : List Record) (kept : ℕ) (e : ℕ → ℕ) (xs : List Record) (left from : ℕ) : Type 0 where
  pub whole : take left xs ++ drop_firsts e (drop from (take kept rs)) ≡ drop_firsts before (take kept rs)
  pub rest : drop from xs ≡ drop from rs
  pub order : left ≤ from
  pub within : from ≤ kept
  pub fits : kept ≤ length rs
  pub long : length xs ≡ length rs

module _ (before : ℕ → ℕ) (rs : List Record) (kept : ℕ) (e : ℕ → ℕ) (xs : List Record) (left from : ℕ) (ran : Ran before rs kept e xs left from) where
  -- as many as are kept, from the place on
  counted : (place : ℕ) → place ≤ kept → drop place (take kept rs) ≡ take (kept - place) (drop place rs)
  counted place le =
      let whole : place + (kept - place) ≡ kept = omega (arith, le) in
      subst (λ k. drop place (take k rs) ≡ take (kept - place) (drop place rs)) whole (drop-take place (kept - place) rs)

  pub same_at : (i : ℕ) → get_or xs (from + i) no_record ≡ get_or rs (from + i) no_record
  same_at i =
      sym (get_or-drop from xs i no_record) ∙ ap (λ ys. get_or ys i no_record) ran.rest ∙ get_or-drop from rs i no_record

  module _ (named : ℕ) (after : from ≤ named) (within : named ≤ kept) where
    abbrev n : ℕ
    n = named - from

    reaches : from + n ≡ named
    reaches = omega (arith, after)

    abbrev zs : List Record
    zs = drop from (take kept rs)

    enough : n ≤ length zs
    enough = omega (arith, length-drop from (take kept rs), length-take-le kept rs ran.fits, within, after)

    behind_zs : drop n zs ≡ drop named (take kept rs)
    behind_zs = drop-drop n from (take kept rs) ∙ ap (λ k. drop k (take kept rs)) reaches

    front_zs : take n zs ≡ take n (drop from xs)
    front_zs =
        let le : n ≤ kept - from = omega (arith, within) in
        ap (take n) (counted from ran.within) ∙ take-take n (kept - from) (drop from rs) le ∙ ap (take n) (sym ran.rest)

    -- a run before the next that goes
    pub run_on : ((i : ℕ) → from ≤ i → i < named → e (get_or xs i no_record).key ≡ 0) → (ys : List Record) → take (left + n) ys ≡ take left xs ++ take n (drop from xs) → drop named ys ≡ drop named xs → length ys ≡ length xs → Ran before rs kept e ys (left + n) named
    run_on others ys front behind size =
        let none : (i : ℕ) → i < n → e (get_or zs i no_record).key ≡ 0 =
        λ i lt.
        let below : from + i < named = omega (arith, lt, reaches) in
        let kept_too : from + i < kept = omega (arith, below, within) in
        subst
        (λ r. e r.key ≡ 0)
        (same_at i ∙ sym (get_or-take kept rs (from + i) no_record kept_too) ∙ sym (get_or-drop from (take kept rs) i no_record))
        (others (from + i) (omega arith) below)
        in
        let left_over : drop_firsts e zs ≡ take n (drop from xs) ++ drop_firsts e (drop named (take kept rs)) =
        run_stays e n zs enough none ∙ ap (λ ws. ws ++ drop_firsts e (drop n zs)) front_zs ∙ ap (λ ws. take n (drop from xs) ++ drop_firsts e ws) behind_zs
        in
        record {
          whole = ap (λ ws. ws ++ drop_firsts e (drop named (take kept rs))) front
              ∙ append_assoc (take left xs) (take n (drop from xs)) (drop_firsts e (drop named (take kept rs)))
              ∙ ap (λ ws. take left xs ++ ws) (sym left_over)
              ∙ ran.whole;
          rest = behind
              ∙ ap (λ k. drop k xs) (sym reaches)
              ∙ sym (drop-drop n from xs)
              ∙ ap (drop n) ran.rest
              ∙ drop-drop n from rs
              ∙ ap (λ k. drop k rs) reaches;
          order = omega (arith, ran.order, after);
          within = within;
          fits = ran.fits;
          long = size ∙ ran.long;
        }

    -- where nothing has gone yet, nothing moves
    pub run_still : ((i : ℕ) → from ≤ i → i < named → e (get_or xs i no_record).key ≡ 0) → left ≡ from → Ran before rs kept e xs (left + n) named
    run_still others is = run_on others xs (take-add left n xs ∙ ap (λ k. take left xs ++ take n (drop k xs)) is) refl refl

    -- where something has, the run moves down
    pub run_moved : ((i : ℕ) → from ≤ i → i < named → e (get_or xs i no_record).key ≡ 0) → (ys : List Record) → ys ≡ copy_within xs from named left → Ran before rs kept e ys (left + n) named
    run_moved others ys is =
        let long = ran.long in
        let at : left ≤ length xs = omega (arith, ran.order, ran.within, ran.fits, ran.long) in
        let size : n ≤ length (drop from xs) = omega (arith, length-drop from xs, within, ran.fits, ran.long) in
        let past : left + n + (named - (left + n)) ≡ named = omega (arith, ran.order, reaches) in
        let there : left + n ≤ length xs = omega (arith, ran.order, reaches, within, ran.fits, ran.long) in
        let behind : drop named (paste xs left (drop from xs) n) ≡ drop named xs =
        ap (λ k. drop k (paste xs left (drop from xs) n)) (sym past)
        ∙ sym (drop-drop (named - (left + n)) (left + n) (paste xs left (drop from xs) n))
        ∙ ap (drop (named - (left + n))) (drop-paste xs left (drop from xs) n at size)
        ∙ drop-drop (named - (left + n)) (left + n) xs
        ∙ ap (λ k. drop k xs) past
        in
        run_on others ys (ap (take (left + n)) is ∙ take-paste xs left (drop from xs) n at size) (ap (drop named) is ∙ behind) (ap length is ∙ length-paste xs left (drop from xs) n there size)

  -- one that goes
  pub one_gone : from < kept → nat_lt 0 (e (get_or xs from no_record).key) ≡ true → (e' : ℕ → ℕ) → ((k : ℕ) → e' k ≡ one_less e (get_or xs from no_record).key k) → Ran before rs kept e' xs left (from + 1)
  one_gone lt some e' less =
      let here : get_or (take kept rs) from no_record ≡ get_or xs from no_record =
      get_or-take kept rs from no_record lt ∙ ap (λ k. get_or rs k no_record) (sym (add-zero from)) ∙ sym (same_at 0) ∙ ap (λ k. get_or xs k no_record) (add-zero from)
      in
      let fits : from < length (take kept rs) = omega (arith, lt, length-take-le kept rs ran.fits) in
      let goes : drop_firsts e (drop from (take kept rs)) ≡ drop_firsts e' (drop (from + 1) (take kept rs)) =
      ap (drop_firsts e) (drop_more (take kept rs) from no_record fits)
      ∙ first_goes e e' (get_or (take kept rs) from no_record) (drop (from + 1) (take kept rs)) (λ k. less k ∙ ap (λ r. one_less e r.key k) (sym here)) (ap (λ r. nat_lt 0 (e r.key)) here ∙ some)
      in
      record {
        whole = ap (λ ws. take left xs ++ ws) (sym goes) ∙ ran.whole;
        rest = sym (drop-drop 1 from xs) ∙ ap (drop 1) ran.rest ∙ drop-drop 1 from rs;
        order = omega (arith, ran.order);
        within = omega (arith, lt);
        fits = ran.fits;
        long = ran.long;
      }

-- a record that was not looked at yet stays where it is
pub still_there : (before : ℕ → ℕ) (rs : List Record) (kept : ℕ) (e : ℕ → ℕ) (xs ys : List Record) (left from left' named : ℕ) → Ran before rs kept e xs left from → Ran before rs kept e ys left' named → from ≤ named → get_or ys named no_record ≡ get_or xs named no_record
still_there before rs kept e xs ys left from left' named ran next after =
    let is : from + (named - from) ≡ named = omega (arith, after) in
    ap (λ k. get_or ys k no_record) (sym (add-zero named))
    ∙ same_at before rs kept e ys left' named next 0
    ∙ ap (λ k. get_or rs k no_record) (add-zero named ∙ sym is)
    ∙ sym (same_at before rs kept e xs left from ran (named - from))
    ∙ ap (λ k. get_or xs k no_record) is
