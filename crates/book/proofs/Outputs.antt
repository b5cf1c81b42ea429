-- What is read of an input whose bytes are known, and what an output gains.
use Rattle.std.proofs.Common.{◌≡◌, ℕ, zero, suc, ◌+◌, ◌-◌, ◌<◌, ◌≤◌, min, refl, inl, inr, List, [], ◌∷◌, ◌++◌, length, take, drop, Option, Some, None, sym, ap, ◌∙◌, length-drop, subst, arith}
use Rattle.std.proofs.KnownBytes.{Appends-nil, Appends-trans, Keeps-refl}
use Rattle.std.proofs.Math.Seq.{take-append-add}
use Rattle.std.proofs.lemmas.Grind.{common_steps}
use Rattle.std.proofs.lemmas.List.{length-take, take_all, take-append-drop}
use Rattle.std.specs.Io.KnownBytes.{Appends}
use Rattle.std.specs.Option.{option_map}
use Rattle.std.specs.Prelude.{IfSome, MatchResult, OnErr, Ok, Err, Result}
use Rattle.std.specs.Result.{result_and}
use Rattle.snapshot.specs.declared.account.AccountHead.{AccountHead}
use Rattle.snapshot.specs.declared.fault.BookFault.{BookFault}
use Rattle.book.specs.declared.output.Extent.{Extent}
use Rattle.book.specs.declared.output.Extent.TheVariants.{Whole, Front}
use Rattle.book.specs.Books.{GainsFront, GainsListing, IsFrontOf, ListedBehind, ListsBook, listing_text, most_bytes}
use Rattle.book.specs.Outputs.{AppendsFront}

pub take_of_take : (n m : ℕ) (xs : List ℕ) → n ≤ m → take n (take m xs) ≡ take n xs
take_of_take zero m xs le = refl
take_of_take (suc n) zero xs le = absurd (omega (arith, le))
take_of_take (suc n) (suc m) [] le = refl
take_of_take (suc n) (suc m) (x ∷ xs) le = ap (λ ys. x ∷ ys) (take_of_take n m xs (omega (arith, le)))

-- A reader with a limit of one byte more than those that count gave all the bytes where it gave no more than those ..
pub known_whole : (given known : Option (List ℕ)) (limit : ℕ) (before items : List ℕ) → IfSome (option_map (take limit) given) (λ xs. items ≡ before ++ xs) → limit ≡ most_bytes + 1 → before ≡ [] → given ≡ known → length items ≤ most_bytes → IsFrontOf known items Whole
known_whole None known limit before items read is none same few = subst (λ k. IsFrontOf k items Whole) same (record { front = tt; told = tt })
known_whole (Some xs) known limit before items read is none same few =
    let taken : items ≡ take (most_bytes + 1) xs = read ∙ ap (λ bs. bs ++ take limit xs) none ∙ ap (λ n. take n xs) is in
    let size : min (most_bytes + 1) (length xs) ≤ most_bytes = subst (λ n. n ≤ most_bytes) (ap length taken ∙ length-take (most_bytes + 1) xs) few in
    let short : length xs ≤ most_bytes = omega (arith, size) in
    subst (λ k. IsFrontOf k items Whole) same (record {
      front = taken ∙ take_all (most_bytes + 1) xs (omega (arith, short)) ∙ sym (take_all most_bytes xs short);
      told = short;
    })

-- .. and else its first bytes are those that count
pub known_front : (given known : Option (List ℕ)) (limit : ℕ) (before items cut : List ℕ) → IfSome (option_map (take limit) given) (λ xs. items ≡ before ++ xs) → limit ≡ most_bytes + 1 → before ≡ [] → given ≡ known → most_bytes < length items → cut ≡ take most_bytes items → IsFrontOf known cut Front
known_front None known limit before items cut read is none same many first = subst (λ k. IsFrontOf k cut Front) same (record { front = tt; told = tt })
known_front (Some xs) known limit before items cut read is none same many first =
    let taken : items ≡ take (most_bytes + 1) xs = read ∙ ap (λ bs. bs ++ take limit xs) none ∙ ap (λ n. take n xs) is in
    let size : most_bytes < min (most_bytes + 1) (length xs) = subst (λ n. most_bytes < n) (ap length taken ∙ length-take (most_bytes + 1) xs) many in
    subst (λ k. IsFrontOf k cut Front) same (record {
      front = first ∙ ap (take most_bytes) taken ∙ take_of_take most_bytes (most_bytes + 1) xs (omega arith);
      told = omega (arith, size);
    })

-- the text of what was read is that of a listing of the book
pub lists_book : (book text : List ℕ) (heads : List AccountHead) (ending : Option BookFault) → ListedBehind [] heads book ending → text ≡ listing_text heads ending → ListsBook book text
lists_book book text heads ending listed shown =
    record { heads = listed.heads; ending = ending; listed = listed.listed; shown = shown ∙ ap (λ hs. listing_text hs ending) listed.behind }

-- nothing was written
pub gains_none : (known contents : Option (List ℕ)) → IfSome known (λ rest. GainsFront (take most_bytes rest) contents contents)
gains_none None contents = tt
gains_none (Some rest) contents = record { gains = inl (Keeps-refl contents) }

gains_front : (known before after : Option (List ℕ)) (book text : List ℕ) (extent : Extent) → IsFrontOf known book extent → ListsBook book text → AppendsFront (λ rest. 0 < length rest) before after text → IfSome known (λ rest. GainsFront (take most_bytes rest) before after)
gains_front None before after book text extent is lists gains = tt
gains_front (Some rest) before after book text extent is lists gains =
    record { gains = inr (text, subst (λ bs. ListsBook bs text) is.front lists, gains) }

-- the same of the writing of the text, once it has failed
pub fails_front : {E : Type 0} (known before after : Option (List ℕ)) (book text : List ℕ) (extent answer : Extent) (written : Result (Unit {0}) E) → IsFrontOf known book extent → ListsBook book text → MatchResult written (λ _. Appends before after text) (λ _. AppendsFront (λ rest. 0 < length rest) before after text) → OnErr (result_and written (Ok answer)) (IfSome known (λ rest. GainsFront (take most_bytes rest) before after))
fails_front known before after book text extent answer (Ok u) is lists gains = tt
fails_front known before after book text extent answer (Err e) is lists gains = gains_front known before after book text extent is lists gains

pub gains_listing : (known before after : Option (List ℕ)) (book text : List ℕ) (extent : Extent) → IsFrontOf known book extent → ListsBook book text → Appends before after text → IfSome known (λ rest. GainsListing (take most_bytes rest) before after)
gains_listing None before after book text extent is lists gains = tt
gains_listing (Some rest) before after book text extent is lists gains =
    record { text = text; lists = subst (λ bs. ListsBook bs text) is.front lists; gains = gains }

-- so many bytes of the text
pub record Written (old cur : Option (List ℕ)) (text : List ℕ) (written : ℕ) : Type 0 where
  pub within : written ≤ length text
  pub wrote : Appends old cur (take written text)

pub none_written : (a : Option (List ℕ)) (text : List ℕ) → Written a a text 0
none_written a text = record { within = omega arith; wrote = Appends-nil a }

take_sum : (a b : ℕ) (xs : List ℕ) → a ≤ length xs → take a xs ++ take b (drop a xs) ≡ take (a + b) xs
take_sum a b xs fits =
    let size : length (take a xs) ≡ a = omega (arith, length-take a xs) in
    sym (take-append-add (take a xs) (drop a xs) b)
    ∙ (ap (λ n. take (n + b) (take a xs ++ drop a xs)) size ∙ ap (take (a + b)) (take-append-drop a xs))

rest_range : (written : ℕ) (text : List ℕ) → take (length text - written) (drop written text) ≡ drop written text
rest_range written text = grind (arith, common_steps)

pub some_written : (old cur new : Option (List ℕ)) (text : List ℕ) (written count : ℕ) → Written old cur text written → count ≤ length (take (length text - written) (drop written text)) → Appends cur new (take count (take (length text - written) (drop written text))) → Written old new text (written + count)
some_written old cur new text written count so_far fits wrote =
    let range = rest_range written text in
    let fits_rest : count ≤ length (drop written text) = rw range at fits in
    let wrote_rest : Appends cur new (take count (drop written text)) = rw range at wrote in
    record {
      within = omega (arith, length-drop written text, so_far.within, fits_rest);
      wrote = subst (λ t. Appends old new t) (take_sum written count text so_far.within) (Appends-trans old cur new (take written text) (take count (drop written text)) so_far.wrote wrote_rest);
    }

pub rest_left : (old cur : Option (List ℕ)) (text : List ℕ) (written : ℕ) → Written old cur text written → written < length text → AppendsFront (λ rest. 0 < length rest) old cur text
rest_left old cur text written so_far more =
    (take written text, drop written text, sym (take-append-drop written text), omega (arith, length-drop written text), so_far.wrote)
