-- What is done with sets of senders as numbers, one step at a time. Assumes nothing.
use Rattle.std.specs.Prelude.{ℕ, ◌-◌, ◌^◌, Bool, cond, not, ◌&&◌, List, [], ◌==◌, bit_and, bit_or, nat_le, slice_index, slice_index_or, slice_set}
use Rattle.quorum.specs.Sets.{member}
use Rattle.quorum.specs.Rules.{Rule, strong, ample}
use Rattle.vote.specs.declared.Vote.{Vote}
use Rattle.heard.specs.declared.tally.Tally.{Tally}
use Rattle.heard.specs.declared.counted.Heard.{Heard}

-- what is read past the end of the kinds
abbrev pub beyond : Tally
beyond = record { values = []; all = 0 }

-- the senders whose first vote bears something else than u
abbrev pub others : Tally → ℕ → ℕ
others t u = t.all - bit_and t.all (slice_index t.values u)

-- the set at v with board i
abbrev pub with_board : List ℕ → ℕ → ℕ → List ℕ
with_board ss v i = slice_set ss v (bit_or (slice_index ss v) (2 ^ i))

-- the first vote of board i bears v, unless there was one before
abbrev pub added : Tally → ℕ → ℕ → Tally
added t v i = cond (member i t.all) t record { values = with_board t.values v i; all = bit_or t.all (2 ^ i) }

abbrev pub noted : Heard → Vote → Heard
noted o w = record {
  echoes = cond (w.kind == 1) (with_board o.echoes w.value w.sender) o.echoes;
  first = slice_set o.first (w.kind - 1) (added (slice_index_or o.first (w.kind - 1) beyond) w.value w.sender);
}

-- a value from `from` on with ample senders
abbrev pub ample_from : Rule → List ℕ → ℕ → ℕ → Bool
ample_from R ss from v = nat_le from v && ample R (slice_index ss v)

-- a character with a sender in `fifth` and strong senders in `fourth`
abbrev pub backed_in : Rule → List ℕ → List ℕ → ℕ → Bool
backed_in R fourth fifth w = not (w == 0) && not (slice_index fifth w == 0) && strong R (slice_index fourth w)
