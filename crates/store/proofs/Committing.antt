-- A commit that is accepted: what it leaves of each key, written or not.
use Rattle.std.proofs.Common.{◌≡◌, ℕ, zero, suc, ◌-◌, ◌<◌, ◌≤◌, List, [], ◌∷◌, ◌++◌, length, take, drop, sym, subst, ⊎_elim, arith}
use Rattle.std.specs.List.{ContainsAt as Has, AllByRecursion}
use Rattle.std.proofs.ByRecursion.{All-drop, has_append_left}
use Rattle.std.proofs.lemmas.Bool.{cases_lt}
use Rattle.std.proofs.lemmas.List.{drop-append-le, length-drop, length_push, take-append-drop}
use Rattle.store.specs.Laws.{Rises, WrittenLaw}
use Rattle.store.specs.Meaning.{newest}
use Rattle.store.specs.declared.version.Version.{Version}
use Rattle.store.proofs.Versions.{Before, rises_push}
use Rattle.store.proofs.Pruning.{first_or_later}

-- of a list that rises, what is dropped from its start is older than all that is left
dropped_older : (n : ℕ) (vs : List Version) → Rises vs → (v : Version) → Has vs v → (Has (drop n vs) v → ⊥) → AllByRecursion (λ w. v.timestamp < w.timestamp) (drop n vs)
dropped_older zero vs r v has gone = absurd (gone has)
dropped_older (suc n) [] r v has gone = tt
dropped_older (suc n) (x ∷ vs) r v has gone =
    let Newer : Version → Type 0 = λ u. AllByRecursion (λ w. u.timestamp < w.timestamp) (drop n vs) in
    first_or_later (Newer v) x vs v (λ same. subst Newer same (All-drop (λ w. x.timestamp < w.timestamp) n vs r.0)) (λ later. dropped_older n vs r.1 v later gone) has

-- a key that rises and is written
module _ (depth : ℕ) (deep : 1 ≤ depth) (kept : List Version) (v : Version) (rises : Rises kept) (before : Before v.timestamp kept) where
  abbrev all : List Version
  all = kept ++ (v ∷ [])

  abbrev over : ℕ
  over = length all - depth

  beyond : (u : Version) → Has kept u → (Has (newest depth all) u → ⊥) → (length (newest depth all) ≡ depth) × AllByRecursion (λ w. u.timestamp < w.timestamp) (newest depth all)
  beyond u has gone =
      let there : Has all u = has_append_left kept (v ∷ []) u has in
      let full : depth < length all =
      ⊎_elim
      (λ lt. lt)
      (λ le. let none : over ≡ 0 = omega arith in absurd (gone (subst (λ n. Has (drop n all) u) (sym none) there)))
      (cases_lt depth (length all)) in
      (simp length-drop (omega arith), dropped_older over all (rises_push kept v rises before) u there gone)

  pub written_law : WrittenLaw depth kept (newest depth all) v
  written_law =
      record {
        newest = (drop over kept, drop-append-le over kept (v ∷ []) (omega (arith, length_push kept v)));
        oldest_first = (take over all, sym (take-append-drop over all));
        beyond_depth = beyond;
      }
