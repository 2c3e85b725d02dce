-- From what a call on the records does to what it promises. Assumes nothing.
use Rattle.std.proofs.Common.{◌≡◌, ℕ, true, cond, List, ◌∷◌, Some, None, Err, Option, Result, sym, ap, ◌∙◌}
use Rattle.quorum.specs.Rules.{Rule, Lawful}
use Rattle.vote.specs.Search.{given}
use Rattle.agreement.specs.Runs.{Event}
use Rattle.wire.specs.Frames.{carried}
use Rattle.wire.proofs.FrameText.{ranges_carried}
use Rattle.group.specs.declared.fault.GroupFault.{GroupFault}
use Rattle.group.specs.declared.records.Records.{Records}
use Rattle.group.specs.declared.terms.Terms.{Terms}
use Rattle.group.specs.Calls.{Yield, Call, carrying, records_of, fault_of, done_by, told_by, unless, next, answer, run_of, after, answered}
use Rattle.group.specs.Promises.{Reached, Plays}
use Rattle.group.specs.Steps.{StandsAgainst}
use Rattle.group.proofs.Faultless.{may_carry}
use Rattle.group.proofs.Legal.{run_legal, word_ranges}
use Rattle.group.proofs.Promised.{promised}

refused_run : (r t : List Event) (f : Option GroupFault) (e : GroupFault) → Some e ≡ f → cond (given f) r t ≡ r
refused_run r t f e is = ap (λ (g : Option GroupFault). cond (given g) r t) (sym is)

done_run : (r t : List Event) (f : Option GroupFault) → None ≡ f → cond (given f) r t ≡ t
done_run r t f is = ap (λ (g : Option GroupFault). cond (given g) r t) (sym is)

module _ {R : Rule} {T : Terms} (law : Lawful R) (x : Call) (o : Records) where
  -- a call that something stands against
  pub refused : (e : GroupFault) → StandsAgainst R T x o (Some e) → Plays R T x o o (Err e)
  unfolding Plays after answered run_of next answer
  refused e stands xs reached = record {
    reached = record {
      opened = reached.opened;
      shown = reached.shown ∙ ap (records_of R T) (sym (refused_run (run_of R T xs) (done_by R T (run_of R T xs) x) (fault_of R T (run_of R T xs) x) e (stands xs reached)));
    };
    answers = ap (λ (f : Option GroupFault). unless f (told_by R T (run_of R T xs) x)) (stands xs reached);
    promise = promised law reached.opened (x ∷ xs);
  }

  -- a call that nothing stands against
  pub accepted : (p : Records) (a : Result Yield GroupFault) → StandsAgainst R T x o None
      → ((xs : List Call) → Reached R T o xs → (p ≡ records_of R T (done_by R T (run_of R T xs) x)) × (a ≡ told_by R T (run_of R T xs) x)) → Plays R T x o p a
  unfolding Plays after answered run_of next answer
  accepted p a stands does xs reached =
      let d = does xs reached in
      record {
        reached = record {
          opened = reached.opened;
          shown = d.0 ∙ ap (records_of R T) (sym (done_run (run_of R T xs) (done_by R T (run_of R T xs) x) (fault_of R T (run_of R T xs) x) (stands xs reached)));
        };
        answers = d.1 ∙ ap (λ (f : Option GroupFault). unless f (told_by R T (run_of R T xs) x)) (stands xs reached);
        promise = promised law reached.opened (x ∷ xs);
      }

-- the records as they are shown
pub shown_run : {R : Rule} {T : Terms} {o : Records} (xs : List Call) → Reached R T o xs → o ≡ records_of R T (run_of R T xs)
unfolding after
shown_run xs reached = reached.shown

-- a word that nothing stands against is one that a frame can carry
pub posted_carried : {R : Rule} {T : Terms} (law : Lawful R) (o : Records) (to from c v : ℕ) → StandsAgainst R T (carrying to from c v) o None → (xs : List Call) → Reached R T o xs
    → carried (record { group = T.group; change = T.change; sender = from; kind = c; value = v }) ≡ true
posted_carried {R} {T} law o to from c v stands xs reached =
    let r = run_of R T xs in
    let m = may_carry R T r to from c v (ap (λ (f : Option GroupFault). given f) (sym (stands xs reached))) in
    ranges_carried _ (word_ranges law reached.opened r (run_legal law reached.opened xs) from c v m.sender.0 m.word_posted)
