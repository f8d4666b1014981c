-- A world whose scope is in the arena may be made.
use Rattle.std.proofs.Common.{◌≡◌, ℕ, ◌+◌, ◌<◌, List, [], ◌∷◌, inl, inr, length, length-append, subst, ap, ◌∙◌, arith}
use Rattle.wit_types.specs.declared.function.Function.{Function}
use Rattle.wit_types.specs.declared.interface.TypeDef.{TypeDef}
use Rattle.wit_types.specs.declared.interface.TypeOwner.{TypeOwner}
use Rattle.wit_types.specs.declared.interface.TypeOwner.TheVariants as belongs
use Rattle.wit_scopes.specs.Members.{MemberTree}
use Rattle.wit_scopes.specs.Scopes.{WorldScope}
use Rattle.wit_interfaces.specs.Passed.wit_orders-Needs.{types_of}
use Rattle.wit_interfaces.specs.Passed.wit_arena-Tree.{Name}
use Rattle.wit_interfaces.specs.Passed.wit_arena-Table.{Entries}
use Rattle.wit_interfaces.specs.Passed.wit_arena-Meaning.{Has}
use Rattle.wit_interfaces.proofs.Passed.wit_arena-Lists.{has_none, has_map, map_has, get_more}
use Rattle.wit_interfaces.proofs.Passed.wit_arena-Extending.{Extends}
use Rattle.wit_interfaces.specs.Passed.wit_package_types-Known.{KnownTypes}
use Rattle.wit_interfaces.specs.Passed.wit_package_types-Fill.{names_of, member_names, Fills, fills_none, fills_more}
use Rattle.wit_interfaces.proofs.Passed.wit_package_types-Filling.{names_filled, defined_extends}
use Rattle.wit_interfaces.specs.Passed.wit_resolved_scopes-Scope.{ResolvesScope}
use Rattle.wit_interfaces.specs.Passed.wit_resolved_scopes-Texts.{labelled_texts, own_members, plain}
use Rattle.wit_interfaces.proofs.Passed.wit_resolved_scopes-Following.{functions_extend}
use Rattle.wit_interfaces.proofs.Passed.wit_resolved_scopes-Orders.{sorted_has}
use Rattle.wit_interfaces.proofs.Passed.wit_resolved_scopes-Placing.{functions_put}
use Rattle.wit_interfaces.proofs.Passed.wit_resolved_scopes-Readying.{table_apart}
use Rattle.wit_worlds.specs.Making.{MayMake}
use Rattle.wit_worlds.specs.Paths.{PathsTree}
use Rattle.wit_built_worlds.specs.Adding.{AreNumbered, IsWorldReadyIn}

-- what is within an arena is within one that it begins
pub less_extended : (a b : List TypeDef) → Extends a b → (n : ℕ) → n < length a → n < length b
less_extended a b (more, e) n less = let size : length b ≡ length a + length more = ap length e ∙ length-append a more in omega (arith, less, size)

-- the types of a scope are within the arena
table_within : (k : KnownTypes) (whose : TypeOwner) (a : List TypeDef) (ms : List MemberTree) (b : List TypeDef) (table : Entries) → Fills k whose a ms b table → (e : Name × ℕ) → Has table e → e.1 < length b
table_within k whose a ms b table fills_none e has = absurd (has_none e has)
table_within k whose a ms b table (fills_more ns m b2 c t i f d) e (p, at) =
    elim (get_more t (m.name.text, i) e p at) as (λ _. e.1 < length c) [
      | inl was ↦ less_extended b2 c (defined_extends k t whose b2 m c i d) e.1 (table_within k whose a ns b2 t f e (p, was))
      | inr last ↦
          (let size : length c ≡ length d.before + 1 = ap length d.last ∙ length-append d.before (d.def ∷ []) in
          let is : e.1 ≡ length d.before = ap (λ (z : Name × ℕ). z.1) last.1 ∙ d.id_is in
          omega (arith, size, is))
    ]

module _ (k : KnownTypes) (ps : PathsTree) (w : WorldScope) (ready : IsWorldReadyIn k ps w) (numbered : AreNumbered ps) where
  module _ (id : ℕ) (a b : List TypeDef) (table : Entries) (fs : List Function) (r : ResolvesScope k (belongs.World id) a (types_of (own_members w.members)) (own_members w.members) b table fs) where
    -- each type of the table is one of the world's own
    type_named : (e : Name × ℕ) → Has table e → (m : MemberTree) × Has (types_of (own_members w.members)) m × (e.0 ≡ m.name.text)
    type_named e has =
        let types_are = r.types_are in
        let names : names_of table ≡ member_names types_are.sorted = names_filled k (belongs.World id) a types_are.sorted r.between table types_are.fills in
        let m = map_has (λ (z : MemberTree). z.name.text) types_are.sorted e.0 (subst (λ (ns : List Name). Has ns e.0) names (has_map (λ (z : Name × ℕ). z.0) table e has)) in
        (m.0, sorted_has (types_of (own_members w.members)) types_are.sorted types_are.are_sorted m.0 m.1, m.2)

    pub may_make : (d : List TypeDef) → Extends b d → (ids : List ℕ) → length ids ≡ length (labelled_texts w) → MayMake ps w d table fs ids
    may_make d more ids so_many = record {
      functions = functions_put table r.between (own_members w.members) b fs r.functions;
      labelled = so_many;
      there = ready.there;
      sorts = numbered.sorts;
      one_owner = numbered.one_owner;
      interfaces_fit = numbered.interfaces_fit;
      worlds_fit = numbered.worlds_fit;
      gates = ready.gates;
      within = λ e has.
          less_extended b d more e.1
          (less_extended r.between b (functions_extend table r.between b (own_members w.members) fs r.functions) e.1 (table_within k (belongs.World id) a r.types_are.sorted r.between table r.types_are.fills e has));
      names_apart = table_apart k (types_of (own_members w.members)) (own_members w.members) ready.own (belongs.World id) a r.between table r.types_are;
      keys_apart = ready.keys_apart;
      types_apart = λ e x has_e has_x same. (let m = type_named e has_e in ready.types_apart m.0 x m.1 has_x (same ∙ ap plain m.2));
    }
