-- Writes whose keys rise strictly, put one after the other: each key then has the version that was written to it.
use Rattle.std.proofs.Common.{◌≡◌, ℕ, suc, ◌<◌, true, List, [], ◌∷◌, length, set, None, refl, ◌∙◌, arith}
use Rattle.std.proofs.lemmas.List.{get_or-set_same, get_or-set_other, length-set}
use Rattle.std.proofs.lemmas.Bool.Decides.{nat_tests}
use Rattle.snapshot.specs.Accounts.{rising_from}
use Rattle.snapshot.specs.Limits.{key_count}
use Rattle.snapshot.specs.declared.account.Write.{Write}
use Rattle.store.specs.Meaning.{version_of, written_to}
use Rattle.store.specs.declared.version.Version.{Version}
use Rattle.store.proofs.Writes.{rising_later, rising_keys, unwritten_below}
use Rattle.newest_store.specs.Newest.{version_at, version_with}

-- the versions after the writes, each put in its key's place
abbrev pub put_all : ℕ → List Write → List Version → List Version
put_all t [] vs = vs
put_all t (w ∷ ws) vs = put_all t ws (set vs w.key (version_of t w.value))

-- the first write is put, and those after it do not write its key again
put_first : (t k : ℕ) (w : Write) (ws : List Write) (vs : List Version) → w.key < length vs → (w.key ≡ k → written_to k ws ≡ None) → version_with t (written_to k ws) (version_at k (set vs w.key (version_of t w.value))) ≡ version_with t (written_to k (w ∷ ws)) (version_at k vs)
put_first t k w ws vs lt gone =
    let there = get_or-set_same vs w.key (version_of t w.value) (version_of 0 0) lt in
    let elsewhere = get_or-set_other vs w.key k (version_of t w.value) (version_of 0 0) in
    grind (arith, nat_tests)

pub put_gives : (t k least : ℕ) (ws : List Write) (vs : List Version) → length vs ≡ key_count → rising_from least ws ≡ true → version_at k (put_all t ws vs) ≡ version_with t (written_to k ws) (version_at k vs)
put_gives t k least [] vs len e = refl
put_gives t k least (w ∷ ws) vs len e =
    let next = suc w.key in
    let later = rising_later least w ws e in
    put_gives t k next ws (set vs w.key (version_of t w.value)) (simp length-set len) later
    ∙ put_first t k w ws vs (omega (arith, (rising_keys least (w ∷ ws) e).0)) (λ same. unwritten_below k next ws (omega arith) later)
