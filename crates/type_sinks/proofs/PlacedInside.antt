-- One more declarator in the type of an instance may stand where it does.
use Rattle.std.proofs.Common.{◌≡◌, ◌<◌, ◌≤◌, ℕ, List, [], ◌∷◌, ◌++◌, length, true, sym, ap, subst, ◌∙◌, arith, length-append}
use Rattle.distinct_names.specs.Names.{is_new}
use Rattle.binary_grammar.specs.Syntax.{Meets}
use Rattle.component_value_types.specs.Types.{DefinedTypeValue}
use Rattle.component_definitions.specs.declared.externs.Description.TheVariants as descriptions
use Rattle.component_definitions.specs.Aliases.{outer}
use Rattle.component_sections.specs.Passed.component_instances-Declarators.{DeclaratorValue, declared_type, declared_alias, declared_export, declarator}
use Rattle.wit_types.specs.declared.interface.TypeDef.{TypeDef}
use Rattle.type_writing.specs.Passed.type_meaning-Items.{Item, type_item}
use Rattle.type_writing.specs.Passed.type_meaning-Scope.{meaning}
use Rattle.type_writing.specs.Writing.{Begins}
use Rattle.type_writing.specs.Placing.{MayBeDefined}
use Rattle.type_sinks.specs.declared.root.Root.{Root}
use Rattle.type_sinks.specs.declared.inside.InterfaceTypes.{InterfaceTypes}
use Rattle.type_sinks.specs.Inside.{type_count}
use Rattle.type_sinks.specs.Placing.{AreDeclaratorsPlaced}
use Rattle.type_sinks.specs.Views.{root_scope, RootIsPlaced, IsSameRoot, IsTaken, declarator_values, inside, inside_names, InsideIsGood, InsideIsPlaced, IsSameInside, IsDeclared, IsWrittenUnder}
use Rattle.type_sinks.proofs.Following.{declared_type_follows, outer_follows, export_type_follows, export_function_follows}
use Rattle.type_sinks.proofs.PlacedDeclarators.{AreKnown, behind, declarators_push}
use Rattle.type_sinks.proofs.PlacedRoot.{same_placed, import_placed}
use Rattle.type_sinks.proofs.Insides.{inside_count}
use Rattle.type_sinks.proofs.Declared.{IsOver, types_after}

-- the declarators of an instance type over a root
abbrev PlacedOver : Root → List DeclaratorValue → Type 0
PlacedOver r ds = RootIsPlaced r × AreDeclaratorsPlaced (length (root_scope r).types) ds

pub nothing_placed : (r : Root) (ds : List DeclaratorValue) → ds ≡ [] → RootIsPlaced r → PlacedOver r ds
nothing_placed r ds e p = (p, subst (AreDeclaratorsPlaced (length (root_scope r).types)) (sym e) (λ m le. tt))

pub root_same_placed : (old new : Root) (ds : List DeclaratorValue) → IsSameRoot old new → PlacedOver old ds → PlacedOver new ds
root_same_placed old new ds a p = (same_placed old new a p.0, subst (λ es. AreDeclaratorsPlaced (length (meaning es).types) ds) (sym a.entries) p.1)

pub same_inside_placed : (old new : InterfaceTypes) → IsSameInside old new → InsideIsPlaced old → InsideIsPlaced new
same_inside_placed old new a p = subst (λ (r : Root). PlacedOver r (declarator_values new)) (sym a.root) (subst (PlacedOver old.root) (sym a.declarators) p)

-- ---- one more declarator

-- it may stand behind the others, whatever the root has
abbrev MayStand : InterfaceTypes → DeclaratorValue → Type 0
MayStand t d = (m : ℕ) → length (root_scope t.root).types ≤ m → AreKnown (behind m (declarator_values t)) m (type_count (declarator_values t)) (inside_names t) → Meets declarator (behind m (declarator_values t)) d

declared_placed : (old new : InterfaceTypes) (d : DeclaratorValue) (ids : List ℕ) → IsDeclared old new d ids → MayStand old d → InsideIsPlaced old → InsideIsPlaced new
declared_placed old new d ids a one p =
    subst (λ (r : Root). PlacedOver r (declarator_values new)) (sym a.root)
    (p.0, declarators_push (length (root_scope old.root).types) (declarator_values old) (declarator_values new) d a.declarators p.1 one)

count_inside : (t : InterfaceTypes) → type_count (declarator_values t) ≡ length (inside t).types
count_inside t = inside_count ((root_scope t.root).types ∷ []) (declarator_values t)

pub declared_type_placed : (old new : InterfaceTypes) (d : DefinedTypeValue) (ids : List ℕ) → MayBeDefined (length (inside old).types) d → IsDeclared old new (declared_type d) ids → InsideIsPlaced old → InsideIsPlaced new
declared_type_placed old new d ids h a p =
    declared_placed old new (declared_type d) ids a (λ m le k. declared_type_follows (behind m (declarator_values old)) d (subst (λ n. MayBeDefined n d) (sym (k.types ∙ count_inside old)) h)) p

-- the index that a type has taken
pub type_is_there : (old new : InterfaceTypes) (d : DefinedTypeValue) (i : ℕ) → i ≡ type_count (declarator_values old) → IsDeclared old new (declared_type d) old.exports.items → i < length (inside new).types
type_is_there old new d i at a =
    let count : length (inside new).types ≡ length ((inside old).types ++ type_item (inside old).types d ∷ []) = ap length (types_after old new (declared_type d) old.exports.items a) in
    let both = length-append (inside old).types (type_item (inside old).types d ∷ []) in
    let same = count_inside old in
    omega (arith, count, both, same, at)

pub export_type_placed : (old new : InterfaceTypes) (n : List ℕ) (t : ℕ) (ids : List ℕ) → is_new (inside_names old) n ≡ true → t < length (inside old).types → IsDeclared old new (declared_export n (descriptions.Equal t)) ids → InsideIsPlaced old → InsideIsPlaced new
export_type_placed old new n t ids fresh lt a p =
    declared_placed old new (declared_export n (descriptions.Equal t)) ids a
    (λ m le k. let few = k.types ∙ count_inside old in export_type_follows (behind m (declarator_values old)) n t (ap (λ l. is_new l n) k.names ∙ fresh) (omega (arith, few, lt))) p

pub export_function_placed : (old new : InterfaceTypes) (n : List ℕ) (t : ℕ) (ids : List ℕ) → is_new (inside_names old) n ≡ true → t < length (inside old).types → IsDeclared old new (declared_export n (descriptions.Function t)) ids → InsideIsPlaced old → InsideIsPlaced new
export_function_placed old new n t ids fresh lt a p =
    declared_placed old new (declared_export n (descriptions.Function t)) ids a
    (λ m le k. let few = k.types ∙ count_inside old in export_function_follows (behind m (declarator_values old)) n t (ap (λ l. is_new l n) k.names ∙ fresh) (omega (arith, few, lt))) p

outer_placed : (old new : InterfaceTypes) (i : ℕ) (ids : List ℕ) → i < length (root_scope old.root).types → IsDeclared old new (declared_alias (outer 1 i)) ids → InsideIsPlaced old → InsideIsPlaced new
outer_placed old new i ids lt a p = declared_placed old new (declared_alias (outer 1 i)) ids a (λ m le k. outer_follows (behind m (declarator_values old)) m i k.outer (omega (arith, lt, le))) p

-- ---- over a root that grows

begins_longer : (xs ys : List Item) → Begins xs ys → length xs ≤ length ys
begins_longer xs ys b =
    let e : length ys ≡ length (xs ++ b.0) = ap length b.1 in
    let f = length-append xs b.0 in
    omega (arith, e, f)

pub over_placed : (old mid : InterfaceTypes) (n : List ℕ) (k id : ℕ) → IsOver old mid → IsTaken old.root mid.root n id k → (types : List TypeDef) → InsideIsGood old types → InsideIsPlaced old → InsideIsPlaced mid
over_placed old mid n k id o taken types g p =
    let longer = begins_longer (root_scope old.root).types (root_scope mid.root).types taken.begins in
    (taken.placed types g.root p.0, subst (AreDeclaratorsPlaced (length (root_scope mid.root).types)) (sym o.declarators) (λ m le. p.1 m (omega (arith, longer, le))))

pub foreign_placed : (old mid new : InterfaceTypes) (n : List ℕ) (k id : ℕ) (ids : List ℕ) → IsOver old mid → IsTaken old.root mid.root n id k → IsDeclared mid new (declared_alias (outer 1 k)) ids → (types : List TypeDef) → InsideIsGood old types → InsideIsPlaced old → InsideIsPlaced new
foreign_placed old mid new n k id ids o taken a types g p = outer_placed mid new k ids taken.there a (over_placed old mid n k id o taken types g p)

pub over_same_placed : (old mid new : InterfaceTypes) (n : List ℕ) (k id : ℕ) → IsOver old mid → IsTaken old.root mid.root n id k → IsSameInside mid new → (types : List TypeDef) → InsideIsGood old types → InsideIsPlaced old → InsideIsPlaced new
over_same_placed old mid new n k id o taken a types g p = same_inside_placed mid new a (over_placed old mid n k id o taken types g p)

-- ---- an instance that is imported

pub inside_imported : (t : InterfaceTypes) (new : Root) (n : List ℕ) → IsWrittenUnder t.root new n (declarator_values t) → InsideIsPlaced t → RootIsPlaced new
inside_imported t new n a p = import_placed t.root new n (declarator_values t) a (p.1 (length (root_scope t.root).types) (omega arith)) p.0
