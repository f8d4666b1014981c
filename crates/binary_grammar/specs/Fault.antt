-- What a reader says of bytes that it doesn't read.
use Rattle.std.specs.Prelude.{◌≡◌, Result, Ok, Err}
use Rattle.binary_grammar.specs.declared.fault.Fault.{Fault}
use Rattle.binary_grammar.specs.declared.fault.ReadError.{ReadError}
use Rattle.binary_grammar.specs.declared.fault.ReadError.TheVariants as errors

-- Want of memory says nothing of the bytes; any other error is what reading gives.
abbrev pub Fails : {Y : Type 0} → ReadError → Result Y Fault → Type 0
Fails errors.Memory read = Unit {0}
Fails (errors.Malformed f) read = read ≡ Err f

-- What a function answered, seen by view, is what reading gives, unless memory ran out.
abbrev pub Gives : {X Y : Type 0} → (X → Y) → Result X ReadError → Result Y Fault → Type 0
Gives view (Ok x) read = read ≡ Ok (view x)
Gives view (Err e) read = Fails e read
