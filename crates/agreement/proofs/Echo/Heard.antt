-- One run of the echo method: what is heard of steady boards, and two ample words of one kind are equal. Assumes nothing.
use Rattle.std.proofs.Common.{◌≡◌, ℕ, ◌≤◌, true, false, eqb, ◌≢◌, List, Some, inl, inr}
use Rattle.quorum.proofs.Tested.{ample_by_grows}
use Rattle.vote.specs.declared.Vote.{Vote}
use Rattle.vote.specs.History.{counted, seen, says, speaks}
use Rattle.vote.specs.Search.{given}
use Rattle.vote.specs.Setting.{Setting}
use Rattle.vote.proofs.Options.{given_found, given_from, is_found, is_from, holds_one}
use Rattle.vote.proofs.Counting.{first_counted}
use Rattle.agreement.specs.Runs.{Event, start_of, history, Crew, Steady, Legal}
use Rattle.agreement.specs.Echo.{said, echoed, echo}
use Rattle.agreement.proofs.Steadies.{Ample, meet}
use Rattle.agreement.proofs.Running.{posted_found, counter_started, sends}
use Rattle.agreement.proofs.Echo.Sound.{Third, Passed}
use Rattle.agreement.proofs.Echo.Echoes.{echo_grows, posts_echo, posted_said}

-- ---- what is passed on
pub passed_character : (S : Setting) (c : ℕ) (h : List Vote) (v : ℕ) → v ≢ 0 → Passed S c h v → Ample S (says (seen h) c v)
passed_character S c h v nz (inl a) = a
passed_character S c h v nz (inr b) = absurd (nz b.0)

pub third_character : (S : Setting) (h : List Vote) (v : ℕ) → v ≢ 0 → Third S h v → Ample S (says (seen h) 2 v)
third_character S h v nz (inl a) = a
third_character S h v nz (inr b) = absurd (nz b.0)

module _ {S : Setting} (C : Crew S) where
  -- who says a value speaks
  pub says_speaks : (c : ℕ) (h : List Vote) (v : ℕ) → Ample S (says (seen h) c v) → Ample S (speaks (seen h) c)
  says_speaks c h v a = ample_by_grows C.lawful _ _ (λ i l q. given_from (is_found v _ q)) a

  pub passed_speaks : (c : ℕ) (h : List Vote) (v : ℕ) → Passed S c h v → Ample S (speaks (seen h) c)
  passed_speaks c h v (inl a) = says_speaks c h v a
  passed_speaks c h v (inr b) = b.2

  module _ (three : 3 ≤ S.rule.cover) (r : List Event) (lg : Legal (echo S) C r) where
    abbrev history_of : ℕ → List Vote
    history_of j = history r j

    -- board i has posted v in kind c
    abbrev pub Said : ℕ → ℕ → ℕ → Type 0
    Said i c v = said S (history_of i) c ≡ Some v

    pub heard_echo : (j i v : ℕ) → Steady (echo S) C i → counted (history_of j) 1 v i ≡ true → (s : ℕ) × (start_of r i ≡ Some s) × (echoed S s (history_of i) v ≡ true)
    heard_echo j i v si p =
        let k = posted_found (echo S) r i 1 v (sends (echo S) C (echo_grows S) r lg j 1 v i si p) in (k.0, k.1, posts_echo S k.0 (history_of i) v k.2)

    pub heard_said : (c : ℕ) → eqb c 1 ≡ false → (j i v : ℕ) → Steady (echo S) C i → says (seen (history_of j)) c v i ≡ true → Said i c v
    heard_said c n j i v si p = posted_said S r i c v n (sends (echo S) C (echo_grows S) r lg j c v i si (first_counted (history_of j) c i v (is_found v _ p)))

    pub spoken : (c : ℕ) → eqb c 1 ≡ false → (j i : ℕ) → Steady (echo S) C i → speaks (seen (history_of j)) c i ≡ true → (v : ℕ) × Said i c v
    spoken c n j i si p = let k = given_found _ p in (k.0, heard_said c n j i k.0 si (is_from k.0 k.1))

    -- an ample word has a steady sender
    pub ample_said : (c : ℕ) → eqb c 1 ≡ false → (j v : ℕ) → Ample S (says (seen (history_of j)) c v) → (i : ℕ) × Steady (echo S) C i × Said i c v
    ample_said c n j v a = let k = meet (echo S) C three _ _ a a in (k.0, k.1, heard_said c n j k.0 v k.1 k.2)

    pub ample_spoken : (c : ℕ) → eqb c 1 ≡ false → (j : ℕ) → Ample S (speaks (seen (history_of j)) c) → (i : ℕ) × (v : ℕ) × Steady (echo S) C i × Said i c v
    ample_spoken c n j a = let k = meet (echo S) C three _ _ a a in let q = spoken c n j k.0 k.1 k.2 in (k.0, q.0, k.1, q.1)

    -- a board that has ample senders of a kind has started
    pub hearer_started : (c j : ℕ) → Ample S (speaks (seen (history_of j)) c) → given (start_of r j) ≡ true
    hearer_started c j a =
        let k = meet (echo S) C three _ _ a a in
        let v = given_found _ k.2 in
        counter_started (echo S) C r lg j c v.0 k.0 (first_counted (history_of j) c k.0 v.0 v.1)

    -- two ample words of one kind are equal
    pub agree : (c : ℕ) → eqb c 1 ≡ false → (i j u v : ℕ) → Ample S (says (seen (history_of i)) c u) → Ample S (says (seen (history_of j)) c v) → u ≡ v
    agree c n i j u v a b =
        let k = meet (echo S) C three _ _ a b in holds_one (heard_said c n i k.0 u k.1 k.2) (heard_said c n j k.0 v k.1 k.3)
