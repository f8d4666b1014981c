-- Flags put into a set one after the other.
use Rattle.std.proofs.Common.{◌≡◌, ℕ, Bool, true, false, refl, ap, ◌∙◌}
use Rattle.std.specs.Prelude.{if◌then◌else◌}
use Rattle.std.specs.Int.RustNames.{bit_or}
use Rattle.bitflags.specs.Sets.{without}
use Rattle.flat_types.specs.Signature.{RequiredValue}
use Rattle.canonical_options.specs.View.{has_flag}

abbrev put : ℕ → ℕ → Bool → ℕ
put set flag there = if there then bit_or set flag else without 8 set flag

abbrev asked : ℕ → RequiredValue
asked set = record { memory = has_flag set 1; realloc = has_flag set 2; encoding = has_flag set 4 }

all_put : (memory realloc encoding : Bool) → asked (put (put (put 0 1 memory) 2 realloc) 4 encoding) ≡ record { memory = memory; realloc = realloc; encoding = encoding }
all_put true true true = refl
all_put true true false = refl
all_put true false true = refl
all_put true false false = refl
all_put false true true = refl
all_put false true false = refl
all_put false false true = refl
all_put false false false = refl

pub are_put : (memory realloc encoding : Bool) (a b c d : ℕ) → a ≡ 0 → b ≡ put a 1 memory → c ≡ put b 2 realloc → d ≡ put c 4 encoding
    → asked d ≡ record { memory = memory; realloc = realloc; encoding = encoding }
are_put memory realloc encoding a b c d p q r s =
    ap asked (s ∙ ap (λ n. put n 4 encoding) (r ∙ ap (λ n. put n 2 realloc) (q ∙ ap (λ n. put n 1 memory) p))) ∙ all_put memory realloc encoding
