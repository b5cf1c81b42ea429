use Rattle.std.proofs.Common.{◌≡◌, List, [], ◌∷◌, ⊎_elim, get_or, map, refl, ap, ◌∙◌}
use Rattle.std.proofs.lemmas.Bool.{cases_lt}
use Rattle.std.proofs.lemmas.List.{get_or-replicate, get_or_past}
use Rattle.engine_model.specs.Caches.{Cache}
use Rattle.engine_parts.specs.Caches.{cache_of}
use Rattle.engine_parts.proofs.cache.empty_caches.Goals as goal

pub returns : goal.returns
returns c w =
    let none : List Cache = [] ∷ [] ∷ [] ∷ [] ∷ [] ∷ [] ∷ [] ∷ [] ∷ [] in
    let all : map cache_of (c.new.result ∷ c.new-2.result ∷ c.new-3.result ∷ c.new-4.result ∷ c.new-5.result ∷ c.new-6.result ∷ c.new-7.result ∷ c.new-8.result ∷ []) ≡ none =
    rw (c.new.ensures, c.new-2.ensures, c.new-3.ensures, c.new-4.ensures, c.new-5.ensures, c.new-6.ensures, c.new-7.ensures, c.new-8.ensures) refl in
    ap (λ cs. get_or cs w []) all
    ∙ ⊎_elim (λ lt. get_or-replicate 8 w [] [] lt) (λ le. get_or_past none w [] le) (cases_lt w 8)
