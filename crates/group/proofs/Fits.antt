-- The settings of a board in a group are good, and which boards lie. Assumes nothing.
use Rattle.std.proofs.Common.{◌≡◌, ℕ, ◌<◌, Bool, true, ◌&&◌, length, refl, arith}
use Rattle.std.proofs.lemmas.Bool.{and_from}
use Rattle.quorum.specs.Rules.{Rule}
use Rattle.quorum.specs.Sets.{member}
use Rattle.vote.specs.declared.Method.{Method}
use Rattle.vote.specs.declared.Method.TheVariants.{Plain, Echo}
use Rattle.vote.specs.Setting.{Setting}
use Rattle.agreement.specs.Methods.{method_of}
use Rattle.wire.proofs.FrameText.{within_from}
use Rattle.board.specs.Sound.{sound_fit}
use Rattle.group.specs.declared.terms.Terms.{Terms}
use Rattle.group.specs.Terms.{setting_in, start_at, lies}
use Rattle.group.proofs.Numbers.{numbers}

pub fit_sound : (T : Terms) (i s : ℕ) → i < length T.starts → s ≡ start_at T i → sound_fit T.characters T.group T.change i s ≡ true
fit_sound T i s l is =
    let n = numbers T in
    let k = n.start_fits i (omega (arith, l, n.sixteen)) in
    and_from _ _ (within_from 1 8 T.characters n.characters_low n.characters_high)
    (and_from _ _ (within_from 1 65535 T.group n.group_low n.group_high)
    (and_from _ _ (within_from 1 65535 T.change n.change_low n.change_high)
    (and_from _ _ (within_from 0 15 i (omega arith) (omega (arith, l, n.sixteen))) (within_from 1 T.characters s (omega (arith, is, k.0)) (omega (arith, is, k.1))))))

echo_lies : (m : Method) (S : Setting) (b : Bool) → m ≡ Echo → b ≡ ((method_of m S).may_lie && b)
echo_lies Echo S b e = refl
echo_lies Plain S b e = absurd (cc)

pub listed_lies : (R : Rule) (T : Terms) (i : ℕ) → T.method ≡ Echo → member i T.listed ≡ lies R T i
listed_lies R T i e = echo_lies T.method (setting_in R T) (member i T.listed) e
