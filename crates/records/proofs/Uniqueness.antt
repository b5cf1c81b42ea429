-- Records that hold the same versions of each key in the same order are the same: a meaning is laid out in one way only.
use Rattle.std.proofs.Common.{◌≡◌, ℕ, Bool, true, false, List, [], ◌∷◌, sym, refl, ap, ◌∙◌, subst, ⊎_elim, arith}
use Rattle.std.specs.List.{list_all}
use Rattle.std.proofs.lemmas.Bool.{and_parts, cases_Bool, eqb-true, eq-eqb}
use Rattle.std.proofs.lemmas.Bool.Decides.{nat_tests}
use Rattle.store.specs.Meaning.{Meaning}
use Rattle.store.specs.declared.version.Version.{Version}
use Rattle.records.proofs.Layouts.{cons_yes, cons_no}
use Rattle.records.specs.Records.{has_key, of_key, record_of, record_version}
use Rattle.records.specs.Layouts.{ListsVersions, in_order, is_before}
use Rattle.records.specs.declared.record.Record.{Record}

itself : (r : Record) → has_key r.key r ≡ true
itself r = eq-eqb r.key r.key refl

-- the first version of a key is that of a record, which passes every test that all records pass
first_passes : (p : Record → Bool) (k : ℕ) (v : Version) (vs : List Version) (rs : List Record) → of_key k rs ≡ v ∷ vs → list_all p rs ≡ true → p (record_of k v.timestamp v.value) ≡ true
first_passes p k v vs [] is a = let z : ◌≡◌ {A = ℕ} 0 1 = cc in absurd (omega (arith, z))
first_passes p k v vs (r ∷ rs) is a =
    let parts = and_parts (p r) (list_all p rs) a in
    ⊎_elim
    (λ here.
    let same : record_version r ≡ v = cc (cons_yes k r rs here) in
    let key = eqb-true r.key k here in
    subst (λ q. p q ≡ true) (λ i. record { key = key i; timestamp = (same i).timestamp; value = (same i).value }) parts.0)
    (λ other. first_passes p k v vs rs (sym (cons_no k r rs other) ∙ is) parts.1)
    (cases_Bool (has_key k r))

-- two records are not each before the other
not_both : (x y : Record) → is_before x y ≡ true → is_before y x ≡ true → ⊥
not_both x y a b = grind (arith, nat_tests)

abbrev Same : List Record → List Record → Type 0
Same xs ys = (k : ℕ) → of_key k xs ≡ of_key k ys

-- the first record is the same
same_first : (x y : Record) (xs ys : List Record) → in_order (x ∷ xs) ≡ true → in_order (y ∷ ys) ≡ true → Same (x ∷ xs) (y ∷ ys) → x ≡ y
same_first x y xs ys ox oy same =
    ⊎_elim
    (λ here.
    let versions : record_version y ≡ record_version x = cc (same x.key, cons_yes x.key x xs (itself x), cons_yes x.key y ys here) in
    let key = eqb-true y.key x.key here in
    λ i. record { key = sym key i; timestamp = (sym versions i).timestamp; value = (sym versions i).value })
    (λ other.
    let y_first = first_passes (is_before y) x.key (record_version x) (of_key x.key xs) ys (sym (cons_no x.key y ys other) ∙ sym (same x.key) ∙ cons_yes x.key x xs (itself x)) (and_parts (list_all (is_before y) ys) (in_order ys) oy).0 in
    let apart : has_key y.key x ≡ false = grind (arith, nat_tests) in
    let x_first = first_passes (is_before x) y.key (record_version y) (of_key y.key ys) xs (sym (cons_no y.key x xs apart) ∙ same y.key ∙ cons_yes y.key y ys (itself y)) (and_parts (list_all (is_before x) xs) (in_order xs) ox).0 in
    absurd (not_both x y x_first y_first))
    (cases_Bool (has_key x.key y))

-- and so are those after it
same_rest : (x y : Record) (xs ys : List Record) → x ≡ y → Same (x ∷ xs) (y ∷ ys) → Same xs ys
same_rest x y xs ys e same k =
    ⊎_elim
    (λ here. cc (same k, cons_yes k x xs here, cons_yes k y ys (sym (ap (has_key k) e) ∙ here)))
    (λ other. sym (cons_no k x xs other) ∙ same k ∙ cons_no k y ys (sym (ap (has_key k) e) ∙ other))
    (cases_Bool (has_key k x))

pub same_records : (xs ys : List Record) → in_order xs ≡ true → in_order ys ≡ true → Same xs ys → xs ≡ ys
same_records [] [] ox oy same = refl
same_records [] (y ∷ ys) ox oy same = let z : ◌≡◌ {A = ℕ} 0 1 = cc (same y.key, cons_yes y.key y ys (itself y)) in absurd (omega (arith, z))
same_records (x ∷ xs) [] ox oy same = let z : ◌≡◌ {A = ℕ} 0 1 = cc (same x.key, cons_yes x.key x xs (itself x)) in absurd (omega (arith, z))
same_records (x ∷ xs) (y ∷ ys) ox oy same =
    let first = same_first x y xs ys ox oy same in
    let rest = same_records xs ys (and_parts (list_all (is_before x) xs) (in_order xs) ox).1 (and_parts (list_all (is_before y) ys) (in_order ys) oy).1 (same_rest x y xs ys first same) in
    λ i. first i ∷ rest i

pub one_list : (m : Meaning) (xs ys : List Record) → ListsVersions m xs → ListsVersions m ys → ys ≡ xs
one_list m xs ys here there = same_records ys xs there.ordered here.ordered (λ k. there.versions k ∙ sym (here.versions k))
