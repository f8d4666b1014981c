-- Interfaces of a resolved package take types of others by use alone.
use Rattle.std.proofs.Common.{◌≡◌, ℕ, ◌+◌, List, inl, inr, Some, String, refl, subst, ap, ◌∙◌}
use Rattle.std.specs.Prelude.{slice_get, string_bytes}
use Rattle.std.specs.declared.alloc.Global.{Global}
use Rattle.wit_order.specs.Order as order
use Rattle.wit_types.specs.declared.kind.TypeDefKind.TheVariants as kind
use Rattle.wit_types.specs.declared.function.Function.{Function}
use Rattle.wit_types.specs.declared.interface.Interface.{Interface}
use Rattle.wit_types.specs.declared.interface.TypeDef.{TypeDef}
use Rattle.wit_types.specs.declared.interface.TypeOwner.{TypeOwner}
use Rattle.wit_types.specs.declared.interface.TypeOwner.TheVariants as belongs
use Rattle.wit_types.specs.declared.«package».UnresolvedPackage.{UnresolvedPackage}
use Rattle.wit_syntax.specs.Ast.{FileTree}
use Rattle.wit_arena.specs.Meaning.{Has}
use Rattle.wit_arena.specs.Table.{Entries}
use Rattle.wit_arena.specs.Tree.{Name, Tree}
use Rattle.wit_arena.specs.Unfold.{owner_of}
use Rattle.wit_arena.proofs.Lists.{has_map}
use Rattle.wit_well_formed.specs.Passed.wit_interfaces-Interfaces.{IsInterfaceIn}
use Rattle.wit_well_formed.specs.Passed.wit_resolved_scopes-InArena.{IsFunctionIn}
use Rattle.wit_well_formed.specs.Passed.wit_resolved_scopes-Scope.{functions_among}
use Rattle.wit_well_formed.specs.Passed.wit_resolved_scopes-Texts.{InterfaceText}
use Rattle.wit_well_formed.proofs.Passed.wit_resolved_scopes-Eaches.{each_right}
use Rattle.wit_well_formed.proofs.Passed.wit_resolved_scopes-Orders.{placed}
use Rattle.wit_reach.specs.Deps.{interface_of, IsDepOf}
use Rattle.wit_reach.specs.Holding.{listed_types}
use Rattle.wit_reach.specs.Ids.{function_ids}
use Rattle.wit_reach.proofs.Holding.{has_mapped, has_flat}
use Rattle.wit_named_graphs.specs.Passed.wit_uses-Uses.{TakesByUse, IsOfInterface}
use Rattle.wit_well_formed.specs.Passed.wit_graph_parts-Own.{own_parts}
use Rattle.wit_well_formed.specs.Passed.wit_package-Steps.{Resolves}
use Rattle.wit_well_formed.proofs.Belonging.{types_are_listed}
use Rattle.wit_named_packages.specs.Taking.{ResolvedInterfacesTakeByUse}
use Rattle.wit_named_packages.proofs.Outside.{owner_at}
use Rattle.wit_named_packages.proofs.Scope.{takes, dep_named}
use Rattle.wit_named_packages.proofs.Members.{OutsideAt, type_tree, type_owner, type_outside, function_outside, IsScopeTree}
use Rattle.wit_named_packages.proofs.Packages.{me, owners, c, first, texts, first_is, own_interface, MayBeUsed, placed_at, one_interface, its_arena}

module _ (files : List FileTree) (p : UnresolvedPackage) (r : Resolves files p) (k : ℕ) (d : Interface) (at : slice_get (own_parts p).interfaces k ≡ Some d) (t : InterfaceText) (at_text : slice_get (texts files p r) k ≡ Some t)
    (is : IsInterfaceIn (c files p r) p.types t (first files p r + k) d)
  where
    abbrev by : TypeOwner
    by = belongs.Interface (first files p r + k)

    abbrev Listed : ℕ → Type 0
    Listed i = order.Has (listed_types d) i

    in_table : (i : ℕ) → Listed i → (x : Name) × Has is.table (x, i)
    in_table i h =
        let e = has_mapped (λ (z : String Global × ℕ). z.1) d.types.entries i h in
        let here : Has is.table (string_bytes e.0.0, e.0.1) = subst (λ (es : Entries). Has es (string_bytes e.0.0, e.0.1)) is.is.types (has_map (λ (z : String Global × ℕ). (string_bytes z.0, z.1)) d.types.entries e.0 (placed d.types.entries e.0 e.1)) in
        (string_bytes e.0.0, subst (λ (n : ℕ). Has is.table (string_bytes e.0.0, n)) e.2 here)

    listed_owner : (i : ℕ) (x : TypeDef) → slice_get p.types i ≡ Some x → Listed i → x.owner ≡ by
    listed_owner i x at_x h = (let e = in_table i h in type_owner (c files p r) t.place by p.types is.scope.sorted is.table is.scope.types_are e.0 i e.1 x at_x)

    lists_own : (i : ℕ) (x : TypeDef) → slice_get p.types i ≡ Some x → x.owner ≡ by → Listed i
    lists_own i x at_x its =
        types_are_listed files p r i k d at (x, at_x, ap interface_of its ∙ ap (λ (n : ℕ). Some (n + k)) (first_is files p r))

    one_owner : (i : ℕ) (x : TypeDef) → slice_get p.types i ≡ Some x → (x.kind ≡ kind.Unknown → ⊥) → owner_of (owners files p r) x.owner ≡ Some (owner_at (me files p r) t.place) → x.owner ≡ by
    one_owner i x at_x not of = one_interface files p r x.owner (owner_at (me files p r) t.place) k t at_text refl (placed_at files p r i x (owner_at (me files p r) t.place) at_x not of)

    scope_tree : (i : ℕ) → Listed i → (u : Tree) × IsScopeTree (c files p r) t.place by p.types is.scope.sorted is.table is.scope.types_are i u
    scope_tree i h = (let e = in_table i h in type_tree (c files p r) t.place by p.types is.scope.sorted is.table is.scope.types_are e.0 i e.1)

    abbrev Outside : ℕ → Type 0
    Outside i = OutsideAt (c files p r) t.place by p.types is.scope.sorted is.table is.scope.types_are i

    start_outside : (i : ℕ) → IsOfInterface d i → Outside i
    start_outside i (inl h) = (let e = in_table i h in type_outside (c files p r) t.place by p.types is.scope.sorted is.table is.scope.types_are e.0 i e.1)
    start_outside i (inr h) =
        let e = has_flat (λ (z : String Global × Function). function_ids z.1) d.functions.entries i h in
        let f : Has is.functions e.0.1 = subst (λ (fs : List Function). Has fs e.0.1) is.is.functions (has_map (λ (z : String Global × Function). z.1) d.functions.entries e.0 (placed d.functions.entries e.0 e.1)) in
        let m = each_right (IsFunctionIn (c files p r) t.place p.types is.table) (functions_among t.members) is.functions is.scope.functions_are f.0 e.0.1 f.1 in
        function_outside (c files p r) t.place by p.types is.scope.sorted is.table is.scope.types_are m.0 e.0.1 m.2 i e.2

    interface_takes : TakesByUse p.types by Listed (IsOfInterface d)
    interface_takes =
        takes (me files p r) (owners files p r) (MayBeUsed files p r) p.types (its_arena files p r) t.place by one_owner Listed lists_own (λ i h. (let s = scope_tree i h in (s.0, s.1.0, s.1.1))) (IsOfInterface d) start_outside

    dep_of : (i j : ℕ) → Listed i → IsDepOf p.types i j → MayBeUsed files p r j
    dep_of =
        dep_named (me files p r) (owners files p r) (MayBeUsed files p r) p.types (its_arena files p r) t.place by one_owner Listed lists_own (λ i h. (let s = scope_tree i h in (s.0, s.1.0, s.1.1))) listed_owner

pub interfaces_take : ResolvedInterfacesTakeByUse
interfaces_take files p r k d at =
    let t = own_interface files p r k d at in
    subst (λ (n : ℕ). TakesByUse p.types (belongs.Interface (n + k)) (order.Has (listed_types d)) (IsOfInterface d)) (first_is files p r) (interface_takes files p r k d at t.0 t.1 t.2)

-- interfaces of which types are used may be used
pub interface_dep : (files : List FileTree) (p : UnresolvedPackage) (r : Resolves files p) (k : ℕ) (d : Interface) → slice_get (own_parts p).interfaces k ≡ Some d → (i j : ℕ) → order.Has (listed_types d) i → IsDepOf p.types i j → MayBeUsed files p r j
interface_dep files p r k d at = (let t = own_interface files p r k d at in dep_of files p r k d at t.0 t.1 t.2)
