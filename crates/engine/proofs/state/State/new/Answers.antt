use mathlib.Core.Path.{fun_ext}
use Rattle.std.proofs.Common.{ℕ, [], None, Option, ap, ◌∙◌}
use Rattle.engine_parts.specs.Caches.{caches_of}
use Rattle.engine_parts.specs.WaitingNotices.{notices_of}
use Rattle.engine_model.specs.Caches.{Cache}
use Rattle.engine_model.specs.Engines as model
use Rattle.engine.proofs.state.State.new.Goals as goal

pub returns : goal.returns
returns c m =
    let E : (ℕ → Option model.Chain) → (ℕ → Cache) → model.Notices → model.Engine =
    λ places caches notices. record { places = places; caches = caches; notices = notices; store = m } in
    ap (λ places. E places (caches_of c.empty_caches.result) (notices_of c.new.result)) (fun_ext c.free_places.ensures)
    ∙ ap (λ caches. E (λ p. None) caches (notices_of c.new.result)) (fun_ext c.empty_caches.ensures)
    ∙ ap (E (λ p. None) (λ w. [])) c.new.ensures
