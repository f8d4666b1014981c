-- A scope that is brought into an arena stands in it.
use Rattle.std.proofs.Common.{◌≡◌, ℕ, ◌+◌, List, [], ◌∷◌, ◌++◌, length, length-append, Some, refl, sym, subst, ap, ◌∙◌}
use Rattle.std.specs.Prelude.{slice_get}
use Rattle.wit_types.specs.declared.kind.«Type».TheVariants.{Id}
use Rattle.wit_types.specs.declared.kind.TypeDefKind.{TypeDefKind}
use Rattle.wit_types.specs.declared.function.Function.{Function}
use Rattle.wit_types.specs.declared.interface.TypeDef.{TypeDef}
use Rattle.wit_types.specs.declared.interface.TypeOwner.{TypeOwner}
use Rattle.wit_lookups.specs.Passed.wit_items-ItemTree.{TypeDefKindTree}
use Rattle.wit_lookups.specs.Passed.wit_scopes-Members.{MemberKind, MemberTree}
use Rattle.wit_orders.specs.Needs.{types_of}
use Rattle.wit_resources.specs.Passed.wit_arena-Tree.{Name, Place, in_interface, Owner, Tree}
use Rattle.wit_resources.specs.Passed.wit_arena-Table.{Entries}
use Rattle.wit_resources.specs.Passed.wit_arena-LowerKind.{LowersKind, lowers_alias, lowers_record, lowers_flags, lowers_enum, lowers_variant, lowers_resource, labels_of, written_labels}
use Rattle.wit_resources.specs.Passed.wit_arena-Meaning.{Has}
use Rattle.wit_resources.specs.Passed.wit_arena-Standing.{Stands, AreStanding}
use Rattle.wit_resources.specs.Passed.wit_arena-Lower.{LowersParts}
use Rattle.wit_resources.proofs.Passed.wit_arena-Lists.{get_last, has_left}
use Rattle.wit_resources.proofs.Passed.wit_arena-Extending.{Extends, extends_self, parts_extend}
use Rattle.wit_resources.proofs.Passed.wit_arena-Growing.{ref_grown}
use Rattle.wit_resources.proofs.Passed.wit_arena-Meanings.{types_stand_for_their_meaning}
use Rattle.wit_functions.specs.Passed.wit_package_types-Known.{KnownTypes, with_interface}
use Rattle.wit_functions.specs.Passed.wit_package_types-Fill.{IsTypeOf, GivesKind, gives_defined, gives_used, Defines, Fills, fills_none, fills_more}
use Rattle.wit_functions.proofs.Passed.wit_package_types-Filling.{defined_extends}
use Rattle.wit_functions.proofs.Passed.wit_package_types-Filled.{filled_types_stand_for_their_meaning}
use Rattle.wit_resolved_scopes.specs.Each.{Each}
use Rattle.wit_resolved_scopes.specs.Scope.{functions_among, AddsFunction, adds_function, passes_type, LowersFunctions, no_members, one_more}
use Rattle.wit_resolved_scopes.specs.Meaning.{written_parts, function_refs, StandsForFunction}
use Rattle.wit_resolved_scopes.specs.Brought.{IsBroughtAs, brought, taken}
use Rattle.wit_resolved_scopes.specs.InArena.{Context, labels_written, IsTypeIn, IsFunctionOf, IsFunctionIn, IsScopeIn, GrowsFor, IsBuilt, ResolvedScopesAreIn}
use Rattle.wit_resolved_scopes.proofs.Among.{function_pushed, type_passed}
use Rattle.wit_resolved_scopes.proofs.Eaches.{each_push, each_to, each_given}
use Rattle.wit_resolved_scopes.proofs.Following.{functions_extend}
use Rattle.wit_resolved_scopes.proofs.Meant.{resolved_scopes_stand, function_grown}
use Rattle.wit_resolved_scopes.proofs.Again.{get_extended, parts_again, kind_again, brought_again}

-- ---- types

-- a type under its name, aside from what it means
record IsPut (names : Entries) (whose : TypeOwner) (a : List TypeDef) (m : MemberTree) (e : Name × ℕ) : Type 0 where
  name : e.0 ≡ m.name.text
  def : TypeDef
  there : slice_get a e.1 ≡ Some def
  is : IsTypeOf whose m def.kind def
  labels : labels_of def.kind ≡ labels_written m.kind
  brought : IsBroughtAs names a m.kind def.kind

-- a definition has the labels that it is written with, and a name that is used has none
lowered_labels : (table : Entries) (a b : List TypeDef) (t : TypeDefKindTree) (n : TypeDefKind) → LowersKind table a t b n → labels_of n ≡ written_labels t
lowered_labels table a b t n (lowers_alias _ e r low) = refl
lowered_labels table a b t n (lowers_record _ fs r low same) = same
lowered_labels table a b t n (lowers_flags ls f same) = same
lowered_labels table a b t n (lowers_enum ls e same) = same
lowered_labels table a b t n (lowers_variant _ cs v low same) = same
lowered_labels table a b t n (lowers_resource fs) = refl

given_labels : (k : KnownTypes) (table : Entries) (a b : List TypeDef) (m : MemberKind) (n : TypeDefKind) → GivesKind k table a m b n → labels_of n ≡ labels_written m
given_labels k table a b m n (gives_defined t _ _ low) = lowered_labels table a b t n low
given_labels k table a b m n (gives_used from y i found) = refl

put_kept : (names more : Entries) → ((e : Name × ℕ) → Has names e → Has more e) → (whose : TypeOwner) (a b : List TypeDef) → Extends a b → (m : MemberTree) (e : Name × ℕ) → IsPut names whose a m e → IsPut more whose b m e
put_kept names more among whose a b longer m e p =
    record { name = p.name; def = p.def; there = get_extended a b e.1 p.def longer p.there; is = p.is; labels = p.labels; brought = brought_again names more among b a m.kind p.def.kind longer p.brought }

given_brought : (k : KnownTypes) (table : Entries) (a b z : List TypeDef) (m : MemberKind) (n : TypeDefKind) → Extends b z → GivesKind k table a m b n → IsBroughtAs table z m n
given_brought k table a b z m n more (gives_defined t b2 n2 low) = brought t n2 (kind_again table table (λ e has. has) z a b2 t n2 more low)
given_brought k table a b z m n more (gives_used from y i found) = taken from y i

put_here : (k : KnownTypes) (table : Entries) (whose : TypeOwner) (a : List TypeDef) (m : MemberTree) (b : List TypeDef) (i : ℕ) → Defines k table whose a m b i → IsPut table whose b m (m.name.text, i)
put_here k table whose a m b i d = record {
  name = refl;
  def = d.def;
  there = subst (λ (n : ℕ). slice_get b n ≡ Some d.def) (sym d.id_is) (ap (λ (z : List TypeDef). slice_get z (length d.before)) d.last ∙ get_last d.before d.def);
  is = record { name = d.is.name; kind = refl; owner = d.is.owner; docs = d.is.docs; stability = d.is.stability; span = d.is.span };
  labels = ap labels_of d.is.kind ∙ given_labels k table a d.before m.kind d.kind d.gives;
  brought = subst (IsBroughtAs table b m.kind) (sym d.is.kind) (given_brought k table a d.before b m.kind d.kind (d.def ∷ [], d.last) d.gives);
}

types_put : (k : KnownTypes) (whose : TypeOwner) (a : List TypeDef) (ms : List MemberTree) (b : List TypeDef) (table : Entries) → Fills k whose a ms b table → Each (IsPut table whose b) ms table
types_put k whose a ms b table fills_none = tt
types_put k whose a ms b table (fills_more ns m b2 c t i f d) =
    let longer : Entries = t ++ (m.name.text, i) ∷ [] in
    let among : (e : Name × ℕ) → Has t e → Has longer e = has_left t ((m.name.text, i) ∷ []) in
    each_push (IsPut longer whose c) ns t m (m.name.text, i)
    (each_to (IsPut t whose b2) (IsPut longer whose c) ns t (λ n e h g p. put_kept t longer among whose b2 c (defined_extends k t whose b2 m c i d) n e p) (types_put k whose a ns b2 t f))
    (put_kept t longer among whose c c (extends_self c) m (m.name.text, i) (put_here k t whose b2 m c i d))

module _ (c : Context) (o : Place) (whose : TypeOwner) (a b : List TypeDef) (table : Entries) (more : Extends a b) (stands : (given : Owner → Name → Tree) → AreStanding c.me c.scopes given c.owners o table b) where
  types_in : (ms : List MemberTree) → Each (IsPut table whose a) ms table → Each (IsTypeIn c o whose b) ms table
  types_in ms = each_to (IsPut table whose a) (IsTypeIn c o whose b) ms table type_in
    where
      type_in : (m : MemberTree) (e : Name × ℕ) → Has ms m → Has table e → IsPut table whose a m e → IsTypeIn c o whose b m e
      type_in m e h there p =
          let q : IsPut table whose b m e = put_kept table table (λ x has. has) whose a b more m e p in
          record {
            name = q.name;
            def = q.def;
            there = q.there;
            is = q.is;
            labels = q.labels;
            names = table;
            known = stands;
            brought = q.brought;
            means = λ given. subst (λ (x : Name). Stands c.me c.scopes given c.owners b o x e.1) q.name (stands given e.0 e.1 there);
          }

-- ---- functions

module _ (table : Entries) where
  -- a function aside from what it means
  abbrev IsFunctionPut : List TypeDef → MemberTree → Function → Type 0
  IsFunctionPut a m f = IsFunctionOf table m f × LowersParts table a (written_parts m) a (function_refs f)

  pub refs_kept : (a b : List TypeDef) → Extends a b → (m : MemberTree) (f : Function) → LowersParts table a (written_parts m) a (function_refs f) → LowersParts table b (written_parts m) b (function_refs f)
  refs_kept a b more m f = parts_again table table (λ e has. has) b a a (written_parts m) (function_refs f) more

  functions_kept : (a b : List TypeDef) → Extends a b → (ms : List MemberTree) (fs : List Function) → Each (IsFunctionPut a) ms fs → Each (IsFunctionPut b) ms fs
  functions_kept a b more ms fs = each_to (IsFunctionPut a) (IsFunctionPut b) ms fs (λ m f h g p. (p.0, refs_kept a b more m f p.1))

  function_put : (ns : List MemberTree) (fs : List Function) (a : List TypeDef) (m : MemberTree) (b : List TypeDef) (gs : List Function) → Each (IsFunctionPut a) (functions_among ns) fs → AddsFunction table a fs m b gs
      → Each (IsFunctionPut b) (functions_among (ns ++ m ∷ [])) gs
  function_put ns fs a m b gs before (adds_function b2 f of low) =
      let one : IsFunctionPut b2 m f = (
        record { name = low.name; kind = low.kind; labels = low.signature.labels; docs = low.docs; stability = low.stability; span = low.span },
        parts_again table table (λ e has. has) b2 a b2 (written_parts m) (function_refs f) (extends_self b2) low.signature.types,
      ) in
      subst (λ (xs : List MemberTree). Each (IsFunctionPut b2) xs (fs ++ f ∷ [])) (sym (function_pushed ns m of))
      (each_push (IsFunctionPut b2) (functions_among ns) fs m f (functions_kept a b2 (parts_extend table a b2 (written_parts m) (function_refs f) low.signature.types) (functions_among ns) fs before) one)
  function_put ns fs a m b gs before (passes_type of) = subst (λ (xs : List MemberTree). Each (IsFunctionPut a) xs fs) (sym (type_passed ns m of)) before

  functions_brought : (a : List TypeDef) (ms : List MemberTree) (b : List TypeDef) (fs : List Function) → LowersFunctions table a ms b fs → Each (IsFunctionPut b) (functions_among ms) fs
  functions_brought a ms b fs no_members = tt
  functions_brought a ms b fs (one_more ns m b2 c fs2 gs l adds) = function_put ns fs2 b2 m c gs (functions_brought a ns b2 fs2 l) adds

  pub functions_put : (a : List TypeDef) (ms : List MemberTree) (b : List TypeDef) (fs : List Function) → LowersFunctions table a ms b fs → Each (IsFunctionOf table) (functions_among ms) fs
  functions_put a ms b fs l = each_to (IsFunctionPut b) (IsFunctionOf table) (functions_among ms) fs (λ m f h g p. p.0) (functions_brought a ms b fs l)

-- ---- scopes

module _ (c : Context) (k : KnownTypes) (a b : List TypeDef) where
  built_grown : IsBuilt c k a → GrowsFor c a b → IsBuilt c k b
  built_grown built grows = record {
    functional = built.functional;
    even = built.even;
    whole = λ given. (grows given).whole;
    known = λ given. (filled_types_stand_for_their_meaning c.me c.scopes given c.owners).kept k a b (grows given) (built.known given);
  }

pub resolved_scopes_are_in : ResolvedScopesAreIn
resolved_scopes_are_in c o whose k a b ms table fs of built r =
    let law = λ (given : Owner → Name → Tree). resolved_scopes_stand c.me c.scopes given c.owners o whose k a b (types_of ms) ms table fs of (built.whole given) (built.known given) r in
    let grows : GrowsFor c a b = λ given. (law given).0 in
    let functions : Each (λ m f. IsFunctionPut table b m f × ((given : Owner → Name → Tree) → StandsForFunction c.me c.scopes given c.owners o b m f)) (functions_among ms) fs =
    each_given (IsFunctionPut table b) (λ (given : Owner → Name → Tree). StandsForFunction c.me c.scopes given c.owners o b) (functions_among ms) fs (functions_brought table r.between ms b fs r.functions) (λ given. (law given).2) in (
      grows,
      built_grown c k a b built grows,
      record {
        sorted = r.types_are.sorted;
        are_sorted = r.types_are.are_sorted;
        types_are = types_in c o whose r.between b table (functions_extend table r.between b ms fs r.functions) (λ given. (law given).1) r.types_are.sorted (types_put k whose a r.types_are.sorted r.between table r.types_are.fills);
        functions_are =
            each_to (λ m f. IsFunctionPut table b m f × ((given : Owner → Name → Tree) → StandsForFunction c.me c.scopes given c.owners o b m f)) (IsFunctionIn c o b table) (functions_among ms) fs
            (λ m f h g p. record { is = p.0.0; refs = p.0.1; means = p.1 }) functions;
      },
    )

-- ---- what stands stays

module _ (c : Context) (a b : List TypeDef) (grows : GrowsFor c a b) (more : Extends a b) where
  pub type_grown : (o : Place) (whose : TypeOwner) (m : MemberTree) (e : Name × ℕ) → IsTypeIn c o whose a m e → IsTypeIn c o whose b m e
  type_grown o whose m e t = record {
    name = t.name;
    def = t.def;
    there = get_extended a b e.1 t.def more t.there;
    is = t.is;
    labels = t.labels;
    names = t.names;
    known = λ given. (types_stand_for_their_meaning c.me c.scopes given c.owners o t.names).kept a b (grows given) (t.known given);
    brought = brought_again t.names t.names (λ x has. has) b a m.kind t.def.kind more t.brought;
    means = λ given. (let s = t.means given in (s.0, ref_grown c.owners given a b (Id e.1) s.0 (grows given) s.1, s.2));
  }

  pub function_in_grown : (o : Place) (table : Entries) (m : MemberTree) (f : Function) → IsFunctionIn c o a table m f → IsFunctionIn c o b table m f
  function_in_grown o table m f g = record { is = g.is; refs = refs_kept table a b more m f g.refs; means = λ given. function_grown c.me c.scopes given c.owners o a b (grows given) m f (g.means given) }

  pub scope_grown : (o : Place) (whose : TypeOwner) (ms : List MemberTree) (table : Entries) (fs : List Function) → IsScopeIn c o whose a ms table fs → IsScopeIn c o whose b ms table fs
  scope_grown o whose ms table fs s = record {
    sorted = s.sorted;
    are_sorted = s.are_sorted;
    types_are = each_to (IsTypeIn c o whose a) (IsTypeIn c o whose b) s.sorted table (λ m e h g t. type_grown o whose m e t) s.types_are;
    functions_are = each_to (IsFunctionIn c o a table) (IsFunctionIn c o b table) (functions_among ms) fs (λ m f h g i. function_in_grown o table m f i) s.functions_are;
  }

-- the types of an interface may be known by its name
pub built_more : (c : Context) (k : KnownTypes) (a : List TypeDef) (x : Name) (table : Entries) → IsBuilt c k a → ((given : Owner → Name → Tree) → AreStanding c.me c.scopes given c.owners (in_interface x) table a) → IsBuilt c (with_interface k x table) a
built_more c k a x table built stands = record {
  functional = built.functional;
  even = (let e : length k.names ≡ length k.tables = built.even in more_even e);
  whole = built.whole;
  known = λ given. (filled_types_stand_for_their_meaning c.me c.scopes given c.owners).known k a x table built.even (built.known given) (stands given);
}
  where
    more_even : length k.names ≡ length k.tables → length (k.names ++ x ∷ []) ≡ length (k.tables ++ table ∷ [])
    more_even e = length-append k.names (x ∷ []) ∙ ap (λ (n : ℕ). n + 1) e ∙ sym (length-append k.tables (table ∷ []))
