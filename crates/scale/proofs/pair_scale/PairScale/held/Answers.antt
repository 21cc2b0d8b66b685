use Rattle.std.proofs.Common.{◌≡◌, ◌+◌, ◌*◌, ◌%◌, ◌^◌, length, sym, ap, ◌∙◌, arith}
use lib.Bits.{and_mask}
use Rattle.scale.specs.Shapes.{holds, bits}
use Rattle.scale.proofs.Held.{bits-append, parts_few, parts_length, held_both, held_room}
use Rattle.scale.proofs.pair_scale.PairScale.held.Goals as goal

pub overflow_shl-behind : goal.overflow_shl-behind
overflow_shl-behind g c = omega (arith, c.parts.ensures, parts_few g.A.Scale.shape)

pub overflow_add-result : goal.overflow_add-result
overflow_add-result g c =
    let p = c.parts.result in
    let y = bits (holds g.B.Scale.shape c.args.limits.second c.args.self.second) in
    let second : c.from-second.result * 2 ^ p ≡ (y % 256) * 2 ^ p = ap (λ k. k * 2 ^ p) (c.from-second.ensures ∙ c.held-2.ensures) in
    omega (arith, second, held_room p y (omega (arith, c.parts.ensures, parts_few g.A.Scale.shape)), c.from-first.ensures, c.held.ensures)

pub returns : goal.returns
returns g c =
    let xs = holds g.A.Scale.shape c.args.limits.first c.args.self.first in
    let ys = holds g.B.Scale.shape c.args.limits.second c.args.self.second in
    let p = c.parts.result in
    let number = c.parts.ensures ∙ parts_length g.A.Scale.shape c.args.limits.first c.args.self.first in
    let first : c.from-first.result ≡ bits xs % 256 = c.from-first.ensures ∙ c.held.ensures in
    let second : c.from-second.result ≡ bits ys % 256 = c.from-second.ensures ∙ c.held-2.ensures in
    let room = held_room p (bits ys) (omega (arith, c.parts.ensures, parts_few g.A.Scale.shape)) in
    let shifted : c.from-second.result * 2 ^ p % 4294967296 ≡ (bits ys % 256) * 2 ^ p = ap (λ k. k * 2 ^ p % 4294967296) second ∙ omega (arith, room) in
    and_mask _ 8 ∙ (λ i. (first i + shifted i) % 256) ∙ held_both (length xs) p (bits xs) (bits ys) number ∙ ap (λ k. k % 256) (sym (bits-append xs ys))
