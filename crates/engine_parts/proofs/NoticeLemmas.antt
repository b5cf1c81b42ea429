-- One worker more, and one write more, of those that notices are raised for.
use Rattle.std.proofs.Common.{◌≡◌, ℕ, ◌+◌, ◌<◌, Bool, true, false, List, length, get_or, drop, add-one, sym, ap, ◌∙◌}
use Rattle.std.proofs.lemmas.Bool.{cond-true, cond-false}
use Rattle.std.proofs.lemmas.List.{drop_more}
use Rattle.snapshot.specs.Limits.{worker_count}
use Rattle.snapshot.specs.declared.account.Write.{Write}
use Rattle.engine_model.specs.Caches as caches
use Rattle.engine_model.specs.Engines.{Notices}
use Rattle.engine_model.specs.Notices.{notice_of, raise, raise_below, raise_all}

module _ (holder : ℕ → Bool) (t : ℕ) (w : Write) (n : ℕ) (first now : Notices) (e : now ≡ raise_below holder t w n first) where
  -- a worker that holds the key is notified
  pub one_is_notified : holder n ≡ true → raise (notice_of t w n) now ≡ raise_below holder t w (n + 1) first
  one_is_notified h =
      ap (raise (notice_of t w n)) e
      ∙ sym (cond-true (holder n) _ _ h)
      ∙ ap (λ m. raise_below holder t w m first) (sym (add-one n))

  -- and another one is not
  pub one_is_not : holder n ≡ false → now ≡ raise_below holder t w (n + 1) first
  one_is_not h = e ∙ sym (cond-false (holder n) _ _ h) ∙ ap (λ m. raise_below holder t w m first) (sym (add-one n))

-- all workers have had their notices of a write, and what is left gives the whole as before
pub one_write_less :
    (holds_key : ℕ → caches.Cache → Bool) (cs : ℕ → caches.Cache) (t : ℕ) (ws : List Write) (i : ℕ) (d : Write) (n : ℕ) (before now : Notices) →
    i < length ws → n ≡ worker_count → now ≡ raise_below (λ m. holds_key (get_or ws i d).key (cs m)) t (get_or ws i d) n before →
    raise_all holds_key cs t (drop (i + 1) ws) now ≡ raise_all holds_key cs t (drop i ws) before
one_write_less holds_key cs t ws i d n before now lt last e =
    let w = get_or ws i d in
    ap (raise_all holds_key cs t (drop (i + 1) ws)) (e ∙ ap (λ m. raise_below (λ k. holds_key w.key (cs k)) t w m before) last)
    ∙ ap (λ xs. raise_all holds_key cs t xs before) (sym (drop_more ws i d lt))
