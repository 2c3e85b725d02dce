use Rattle.std.proofs.Common.{◌≡◌, ◌≤◌, ℕ, ◌<◌, ◌-◌, List, length, replicate, cond, nat_le, get_or, arith, rules}
use Rattle.std.proofs.lemmas.Grind.{common_steps}
use Rattle.std.proofs.lemmas.List.FromFn.{fill_by_all}
use borrow.Rule.Slice.PartMut.{put_mid}
use Rattle.heard.specs.Shown.{table}
use Rattle.group.specs.Opening.{kept_start}
use Rattle.group.proofs.opened.own_starts.Goals as goal

-- each place up to n as it is kept, and 1 in those behind
kept : (n : ℕ) (ss own part : List ℕ) → n ≤ 16 → length own ≡ 16 → ((i : ℕ) → i < 16 → get_or own i 0 ≡ cond (nat_le (get_or ss i 0) 255) (get_or ss i 0) 255)
    → part ≡ replicate (16 - n) 1 → put_mid n (16 - n) own part ≡ table 16 (kept_start n ss)
kept n ss own part fits len each rest = fill_by_all (kept_start n ss) _ 16 0 (grind (arith, common_steps)) (λ i l. grind (arith, common_steps))

pub returns : goal.returns
returns c =
    kept c.args.crew c.args.starts.now c.map-own.result c.fill.new.self c.requires c.map-own.ensures.items.long
    (λ i l. let k = c.map-own.ensures.items.at i 0 0 l in search rules) (search rules)
