-- A fault inside of a size.
use Rattle.std.proofs.Common.{ℕ, ◌+◌, ◌<◌, ◌^◌, List, length, arith}
use Rattle.binary_grammar.specs.declared.fault.ReadError.{ReadError}
use Rattle.binary_grammar.specs.declared.fault.ReadError.TheVariants as errors
use Rattle.binary_grammar.specs.Format.{CanMove}
use Rattle.binary_grammar.specs.Fault.{Fails}
use Rattle.binary_grammar.specs.Syntax.{Syntax, bounded, meaning}
use Rattle.binary_grammar.proofs.Lawful.{lawful}

-- a fault inside of a size can be moved behind it
pub can_move : {C X : Type 0} (s : Syntax bounded C X) (there : C) (inside : List ℕ) (more : ℕ) (e : ReadError) → Fails e ((meaning s there).read inside) → length inside + more < 2 ^ 64 → CanMove more e
can_move s there inside more errors.Memory h fits = tt
can_move s there inside more (errors.Malformed f) h fits = omega (arith, (lawful s there).within inside f h)
