-- The interfaces of which types are used (WIT, Use).
use Rattle.std.specs.Prelude.{◌≡◌, ℕ, Bool, false, List, Option, Some, None, String, map, slice_get, nat_eq, if◌then◌else◌}
use Rattle.std.specs.declared.alloc.Global.{Global}
use Rattle.wit_types.specs.declared.kind.«Type».{«Type» as Ref}
use Rattle.wit_types.specs.declared.kind.«Type».TheVariants as ref
use Rattle.wit_types.specs.declared.kind.TypeDefKind.{TypeDefKind}
use Rattle.wit_types.specs.declared.kind.TypeDefKind.TheVariants as kind
use Rattle.wit_types.specs.declared.interface.TypeDef.{TypeDef}
use Rattle.wit_types.specs.declared.interface.TypeOwner.{TypeOwner}
use Rattle.wit_types.specs.declared.interface.TypeOwner.TheVariants as belongs
use Rattle.wit_types.specs.declared.interface.Interface.{Interface}
use Rattle.wit_types.specs.Passed.wit_order-Order.{Has}

-- what another name is of
abbrev pub ref_id : Ref → Option ℕ
ref_id (ref.Id i) = Some i
ref_id _ = None

abbrev pub alias_target : TypeDefKind → Option ℕ
alias_target (kind.Alias r) = ref_id r
alias_target _ = None

-- the interface to which a type belongs
abbrev pub interface_of : TypeOwner → Option ℕ
interface_of (belongs.Interface i) = Some i
interface_of (belongs.World w) = None
interface_of belongs.None = None

abbrev pub is_of_interface : ℕ → TypeOwner → Bool
is_of_interface i (belongs.Interface j) = nat_eq j i
is_of_interface i (belongs.World w) = false
is_of_interface i belongs.None = false

-- but to which that doesn't belong
abbrev pub but_own : TypeOwner → Option ℕ → Option ℕ
but_own by None = None
but_own by (Some i) = if is_of_interface i by then None else Some i

abbrev pub owned : Option TypeDef → TypeOwner → Option ℕ
owned None by = None
owned (Some d) by = but_own by (interface_of d.owner)

abbrev pub at_target : List TypeDef → Option ℕ → Option TypeDef
at_target ds None = None
at_target ds (Some i) = slice_get ds i

-- the interface of which a type is used under another name
abbrev pub def_dep : List TypeDef → TypeDef → Option ℕ
def_dep ds d = owned (at_target ds (alias_target d.kind)) d.owner

abbrev pub IsDepOf : List TypeDef → ℕ → ℕ → Type 0
IsDepOf ds i j = (d : TypeDef) × (slice_get ds i ≡ Some d) × (def_dep ds d ≡ Some j)

-- one of these types uses one of it
abbrev pub AreUsed : List TypeDef → List ℕ → ℕ → Type 0
AreUsed ds ids j = (i : ℕ) × Has ids i × IsDepOf ds i j

-- an interface uses a type of another
abbrev pub IsInterfaceDep : List TypeDef → Interface → ℕ → Type 0
IsInterfaceDep ds d j = AreUsed ds (map (λ (e : String Global × ℕ). e.1) d.types.entries) j
