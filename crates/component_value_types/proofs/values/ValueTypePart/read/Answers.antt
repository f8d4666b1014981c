use Rattle.std.proofs.Common.{◌≡◌, ◌^◌, true, sym, subst, arith, SFits, w64, rules}
use Rattle.std.proofs.lemmas.Int.{to_z-of_z}
use Rattle.binary_grammar.specs.Signed.{lies_in}
use Rattle.binary_grammar.proofs.Bits.{signed_shorter}
use Rattle.wasm_types.proofs.Integers.{signed_lies}
use Rattle.component_value_types.proofs.values.ValueTypePart.read.Goals as goal

pub overflow_sub-size : goal.overflow_sub-size
overflow_sub-size c = omega (arith, signed_shorter 33 _ _ _ c.in_ok-number.ensures.gives, c.left.ensures, c.left-at.ensures)

pub value_type_of-requires : goal.value_type_of-requires
value_type_of-requires c =
    let wide : SFits w64 c.in_ok-number.number = search rules in
    subst (λ z. lies_in (2 ^ 32) z ≡ true) (sym (to_z-of_z w64 c.in_ok-number.number wide)) (signed_lies 33 _ _ _ c.in_ok-number.ensures.gives)
