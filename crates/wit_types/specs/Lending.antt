-- A part that is lent to be changed.
use Rattle.std.specs.Prelude.{ℕ, Option, Some, None}
use Rattle.std.specs.Borrow.{LendsIf, MutBor, Fml}
use Rattle.wit_types.specs.declared.function.FunctionKind.{FunctionKind}
use Rattle.wit_types.specs.declared.function.FunctionKind.TheVariants.{Freestanding, AsyncFreestanding, Method, AsyncMethod, Static, AsyncStatic, Constructor}
use Rattle.wit_types.specs.contracts.function.FunctionKind.{the_row}
use Rattle.wit_types.specs.contracts.id.Id.{the_row as id_row}
use Rattle.wit_types.specs.contracts.id.TypeTag.{the_row as tag_row}

-- the same kind of function, of that resource where it is of one
abbrev pub with_resource : FunctionKind → ℕ → FunctionKind
with_resource Freestanding r = Freestanding
with_resource AsyncFreestanding r = AsyncFreestanding
with_resource (Method s) r = Method r
with_resource (AsyncMethod s) r = AsyncMethod r
with_resource (Static s) r = Static r
with_resource (AsyncStatic s) r = AsyncStatic r
with_resource (Constructor s) r = Constructor r

-- the kind ends with the resource that is left there, and unchanged where none was lent
abbrev pub LendsResource : MutBor FunctionKind → Option (MutBor ℕ) → Fml
LendsResource s r = LendsIf the_row (id_row tag_row) s r (with_resource s.now) s.now

abbrev pub held : Option (MutBor ℕ) → Option ℕ
held None = None
held (Some r) = Some r.now
