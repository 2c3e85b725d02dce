-- The promise of a group, from agreement over all runs. Assumes nothing.
use Rattle.std.proofs.Common.{List, ◌++◌, sym, ◌∙◌, subst}
use Rattle.quorum.specs.Rules.{Rule, Lawful}
use Rattle.agreement.specs.Promises as runs
use Rattle.agreement.specs.Promises.{Agreement}
use Rattle.agreement.specs.Runs.{Event, Legal}
use Rattle.agreement.proofs.Agreeing.{agreement}
use Rattle.group.specs.declared.terms.Terms.{Terms}
use Rattle.group.specs.Calls.{Call, run_of, answered}
use Rattle.group.specs.Promises.{Opened, Promise}
use Rattle.group.specs.Terms.{setting_in, method_in, start_at}
use Rattle.group.proofs.Carried.{carried_is_taken}
use Rattle.group.proofs.Onward.{all_can_be_counted}
use Rattle.group.proofs.Legal.{crew, run_legal, run_keeps, run_grown}

module _ {R : Rule} {T : Terms} (law : Lawful R) (accepted : Opened R T) where
  over_runs : (xs : List Call) → runs.Promise (method_in R T) (crew law accepted) (run_of R T xs)
  unfolding Agreement
  over_runs xs = agreement T.method (setting_in R T) accepted.cover_suffices (crew law accepted) (run_of R T xs) (run_legal law accepted xs)

  pub promised : (xs : List Call) → Promise R T xs
  unfolding crew answered
  promised xs =
      let p = over_runs xs in
      let M = method_in R T in
      let C = crew law accepted in
      record {
        decisions_at_most_one_step_apart = p.decisions_at_most_one_step_apart;
        decisions_in_the_span = λ i d h e.
            let s = p.decisions_in_the_span (start_at T) (λ j c hj q. run_keeps law accepted xs j c q) i d h e in
            record { where_all_are_one = λ v all. s.where_all_are_one v (λ j c hj q. sym q ∙ all j hj); none_or_one_of_them = s.none_or_one_of_them };
        the_first_decision_binds = λ one ys zs u v du dv.
            let a = run_grown law accepted ys xs in
            let b = run_grown law accepted zs xs in
            p.the_first_decision_binds one (start_at T) a.0 b.0
            (subst (Legal M C) a.1 (run_legal law accepted (ys ++ xs))) (subst (Legal M C) b.1 (run_legal law accepted (zs ++ xs)))
            (subst (runs.KeepsTo M C (start_at T)) a.1 (λ j c hj q. run_keeps law accepted (ys ++ xs) j c q))
            (subst (runs.KeepsTo M C (start_at T)) b.1 (λ j c hj q. run_keeps law accepted (zs ++ xs) j c q))
            u v (subst (λ (r : List Event). runs.DecidedOn M C r u) a.1 du) (subst (λ (r : List Event). runs.DecidedOn M C r v) b.1 dv);
        all_counted_all_decided = λ begun delivered. p.all_counted_all_decided begun delivered;
        all_can_be_counted = let k = all_can_be_counted law accepted xs in (k.0, k.1.0, k.1.1);
        a_word_that_may_be_carried_is_taken = λ to from c v none. carried_is_taken law accepted (run_of R T xs) (run_legal law accepted xs) to from c v none;
      }
