use Rattle.std.proofs.Common.{◌≡◌, ◌≤◌, ◌<◌, ◌-◌, ℕ, List, true, not, ap, arith, length, take, get_or, refl}
use Rattle.std.proofs.lemmas.List.Sums.{suffix_len_is}
use Rattle.fleet_text.specs.Text.{is_lf}
use Rattle.fleet_cli.specs.Files.{whole_lines}
use Rattle.fleet_cli.proofs.files.whole_lines.Goals as goal

-- what ends in an LF, and has none behind it, is the whole lines
whole : (bytes : List ℕ) (end : ℕ) → end ≤ length bytes → ((k : ℕ) → end ≤ k → k < length bytes → not (is_lf (get_or bytes k 0)) ≡ true) → (0 < end → get_or bytes (end - 1) 0 ≡ 10) → take end bytes ≡ whole_lines bytes
unfolding whole_lines
whole bytes end le others ends =
    let tail = suffix_len_is (λ b. not (is_lf b)) bytes end 0 le others (λ some. rw (ends some) refl) in
    ap (λ n. take n bytes) (omega (arith, tail, le))

pub returns-then-ends_line : goal.returns-then-ends_line
returns-then-ends_line c = whole c.args.bytes.now c.loop-end.end c.loop-end.invariant.within c.loop-end.invariant.others (λ some. omega (arith, c.if-ends_line.true))

pub returns : goal.returns
returns c =
    let none : c.loop-end.end ≡ 0 = omega arith in
    rw none at (whole c.args.bytes.now c.loop-end.end c.loop-end.invariant.within c.loop-end.invariant.others (λ some. absurd (omega (arith, some, none))))
