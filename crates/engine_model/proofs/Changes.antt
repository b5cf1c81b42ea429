-- A sound engine with another chain at a place, another cache, or more observed of a chain.
use Rattle.std.proofs.Common.{◌≡◌, ℕ, IfSome, Some, None, Option, sym, subst}
use Rattle.std.proofs.lemmas.Option.{MatchOption-at_some}
use Rattle.store.specs.Meaning.{Meaning}
use Rattle.engine_model.specs.Caches.{Cache}
use Rattle.engine_model.specs.Engines.{Chain, Engine, with_place, with_cache}
use Rattle.engine_model.specs.Traces.{NewStore, ObservedChain}
use Rattle.engine_model.specs.Updates.{with_at}
use Rattle.engine_model.specs.declared.limits.ChainLimits.{ChainLimits}
use Rattle.engine_model.proofs.Readings.{History, AllTrue}
use Rattle.engine_model.proofs.Sound.{ChainSound, Sound}
use Rattle.engine_model.proofs.Updates.{at_each, at_each_two}

module _ (store : NewStore) (limits : ChainLimits) (h : History) (observed : ℕ → ObservedChain) (m : Meaning) (s : Engine) (sound : Sound store limits h observed m s) where
  abbrev last : ℕ
  last = s.store.last

  -- the chain at a place is sound
  pub chain_at : (p : ℕ) (chain : Chain) → s.places p ≡ Some chain → ChainSound h last limits (observed p) chain
  chain_at p chain e = MatchOption-at_some (Unit {0}) (ChainSound h last limits (observed p)) chain e (sound.chains p)

  -- the chain at a place becomes another
  pub place_sound :
      (p : ℕ) (observed' : ObservedChain) (chain : Option Chain) → IfSome chain (ChainSound h last limits observed') →
      Sound store limits h (with_at p observed' observed) m (with_place p chain s)
  place_sound p observed' chain here =
      record {
        same_store = sound.same_store;
        stands = sound.stands;
        before_end = sound.before_end;
        caches = sound.caches;
        notices = sound.notices;
        chains = at_each_two (λ _ d c. IfSome c (ChainSound h last limits d)) p observed' observed chain s.places here sound.chains;
      }

  -- a place becomes free
  pub free_sound : (p : ℕ) → Sound store limits h observed m (with_place p None s)
  free_sound p =
      record {
        same_store = sound.same_store;
        stands = sound.stands;
        before_end = sound.before_end;
        caches = sound.caches;
        notices = sound.notices;
        chains = at_each (λ q c. IfSome c (ChainSound h last limits (observed q))) p None s.places tt sound.chains;
      }

  -- the chain at a place stays, and more is observed of it
  pub more_observed :
      (p : ℕ) (observed' : ObservedChain) (chain : Chain) → s.places p ≡ Some chain → ChainSound h last limits observed' chain →
      Sound store limits h (with_at p observed' observed) m s
  more_observed p observed' chain here ok =
      let there : IfSome (s.places p) (ChainSound h last limits observed') = subst (λ c. IfSome c (ChainSound h last limits observed')) (sym here) ok in
      record {
        same_store = sound.same_store;
        stands = sound.stands;
        before_end = sound.before_end;
        caches = sound.caches;
        notices = sound.notices;
        chains = at_each (λ q d. IfSome (s.places q) (ChainSound h last limits d)) p observed' observed there sound.chains;
      }

  -- a cache becomes another whose entries are true
  pub cache_sound : (w : ℕ) (cache : Cache) → AllTrue h last cache → Sound store limits h observed m (with_cache w cache s)
  cache_sound w cache all =
      record {
        same_store = sound.same_store;
        stands = sound.stands;
        before_end = sound.before_end;
        caches = at_each (λ _ c. AllTrue h last c) w cache s.caches all sound.caches;
        notices = sound.notices;
        chains = sound.chains;
      }
