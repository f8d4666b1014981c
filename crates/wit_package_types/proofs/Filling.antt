-- Types of a scope one behind the other.
use Rattle.std.proofs.Common.{◌≡◌, ℕ, ◌+◌, ◌<◌, List, [], ◌∷◌, ◌++◌, length, Some, take, get_or, refl, sym, subst, ap, ◌∙◌}
use Rattle.std.proofs.lemmas.Option.{slice_get-map}
use Rattle.std.proofs.lemmas.List.{map_push}
use Rattle.std.specs.Prelude.{slice_get, option_map}
use Rattle.wit_types.specs.declared.kind.TypeDefKind.{TypeDefKind}
use Rattle.wit_types.specs.declared.interface.TypeDef.{TypeDef}
use Rattle.wit_types.specs.declared.interface.TypeOwner.{TypeOwner}
use Rattle.wit_rules.specs.Passed.wit_scopes-declared-members-Member.{Member}
use Rattle.wit_rules.specs.Passed.wit_scopes-Members.{MemberKind, MemberTree}
use Rattle.wit_rules.specs.Passed.wit_scopes-View as scope_view
use Rattle.wit_rules.proofs.Places.{read_at, taken}
use Rattle.wit_arena.specs.Tree.{Name}
use Rattle.wit_arena.specs.Table.{Entries}
use Rattle.wit_arena.specs.Meaning.{Has}
use Rattle.wit_arena.proofs.Lists.{has_map}
use Rattle.wit_package_types.specs.Stability.{AreGates}
use Rattle.wit_package_types.specs.Known.{KnownTypes}
use Rattle.wit_arena.proofs.Extending.{Extends, extends_self, extends_through, kind_extends}
use Rattle.wit_package_types.specs.Fill.{names_of, member_names, IsFound, AreFillable, GivesKind, gives_defined, gives_used, Defines, Fills, fills_none, fills_more}

-- each stands under its name
pub names_filled : (k : KnownTypes) (owner : TypeOwner) (a : List TypeDef) (ms : List MemberTree) (b : List TypeDef) (t : Entries) → Fills k owner a ms b t → names_of t ≡ member_names ms
names_filled k owner a ms b t fills_none = refl
names_filled k owner a ms b t (fills_more ns m b2 c t2 i f d) =
    map_push (λ (e : Name × ℕ). e.0) t2 (m.name.text, i) ∙ ap (λ (xs : List Name). xs ++ m.name.text ∷ []) (names_filled k owner a ns b2 t2 f) ∙ sym (map_push (λ (n : MemberTree). n.name.text) ns m)

-- with the types up to a place filled, the one there may come next
module _ (k : KnownTypes) (owner : TypeOwner) (a : List TypeDef) (xs : List Member) (fillable : AreFillable k (scope_view.members xs)) (i : ℕ) (x : Member) (within : i < length xs) (is : x ≡ get_or xs i x) (b : List TypeDef) (t : Entries)
    (filled : Fills k owner a (take i (scope_view.members xs)) b t)
  where
    there : slice_get (scope_view.members xs) i ≡ Some (scope_view.member x)
    there = slice_get-map scope_view.member xs i ∙ ap (option_map scope_view.member) (read_at xs i x within is)

    names : names_of t ≡ member_names (take i (scope_view.members xs))
    names = names_filled k owner a (take i (scope_view.members xs)) b t filled

    pub next_found : IsFound k (names_of t) (scope_view.member x).kind
    next_found = subst (λ (ns : List Name). IsFound k ns (scope_view.member x).kind) (sym names) (fillable.found i (scope_view.member x) there)

    pub next_gates : AreGates (scope_view.member x).attributes
    next_gates = fillable.gates i (scope_view.member x) there

    pub next_new : (j : ℕ) → Has t (x.name.name.now, j) → ⊥
    next_new j has = fillable.new i (scope_view.member x) there (subst (λ (ns : List Name). Has ns x.name.name.now) names (has_map (λ (e : Name × ℕ). e.0) t (x.name.name.now, j) has))

    pub next_filled : (c : List TypeDef) (j : ℕ) → Defines k t owner b (scope_view.member x) c j → Fills k owner a (take (i + 1) (scope_view.members xs)) c (t ++ (x.name.name.now, j) ∷ [])
    next_filled c j d =
        subst (λ (ms : List MemberTree). Fills k owner a ms c (t ++ (x.name.name.now, j) ∷ [])) (sym (taken (scope_view.members xs) i (scope_view.member x) there))
        (fills_more (take i (scope_view.members xs)) (scope_view.member x) b c t j filled d)

-- ---- what was there stays in front

kind_given_extends : (k : KnownTypes) (t : Entries) (a b : List TypeDef) (mk : MemberKind) (n : TypeDefKind) → GivesKind k t a mk b n → Extends a b
kind_given_extends k t a b mk n (gives_defined d b2 n2 low) = kind_extends t a b2 d n2 low
kind_given_extends k t a b mk n (gives_used from y i f) = extends_self a

pub defined_extends : (k : KnownTypes) (t : Entries) (owner : TypeOwner) (a : List TypeDef) (m : MemberTree) (b : List TypeDef) (i : ℕ) → Defines k t owner a m b i → Extends a b
defined_extends k t owner a m b i d =
    subst (Extends a) (sym d.last) (extends_through a d.before (d.before ++ d.def ∷ []) (kind_given_extends k t a d.before m.kind d.kind d.gives) (d.def ∷ [], refl))

pub filled_extends : (k : KnownTypes) (owner : TypeOwner) (a : List TypeDef) (ms : List MemberTree) (b : List TypeDef) (t : Entries) → Fills k owner a ms b t → Extends a b
filled_extends k owner a ms b t fills_none = extends_self a
filled_extends k owner a ms b t (fills_more ns m b2 c t2 i f d) = extends_through a b2 c (filled_extends k owner a ns b2 t2 f) (defined_extends k t2 owner b2 m c i d)
