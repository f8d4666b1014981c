-- Types that are asked for stand in a graph for what is given for their names.
use Rattle.std.proofs.Common.{◌≡◌, ℕ, zero, suc, List, [], ◌∷◌, map, take, Option, Some, None, bytes_eq, refl, sym, subst, ap, ◌∙◌}
use Rattle.std.proofs.lemmas.Option.{same_Some}
use Rattle.std.proofs.lemmas.Slice.Eq.{bytes_eq-Decides}
use Rattle.std.specs.Prelude.{String, string_bytes, slice_get}
use Rattle.std.specs.declared.alloc.Global.{Global}
use Rattle.wit_types.specs.declared.interface.Interface.{Interface}
use Rattle.wit_types.specs.declared.interface.TypeDef.{TypeDef}
use Rattle.wit_types.specs.declared.interface.TypeOwner.{TypeOwner}
use Rattle.wit_types.specs.declared.interface.TypeOwner.TheVariants as belongs
use Rattle.wit_types.specs.declared.kind.TypeDefKind.{TypeDefKind}
use Rattle.wit_types.specs.declared.kind.TypeDefKind.TheVariants as kind
use Rattle.wit_moves.specs.Moved.{Places, place_of}
use Rattle.wit_finding.specs.Types.{type_in, interface_at, interface_of, type_found}
use Rattle.wit_arena.specs.Tree.{Name, Owner, Tree}
use Rattle.wit_arena.specs.Unfold.{Owners, owner_of, and_then, named_kind_tree, def_tree_of, trees}
use Rattle.wit_arena.specs.Standing.{HasTree}
use Rattle.wit_arena.specs.Meaning.{Has}
use Rattle.wit_arena.proofs.Unfolding.{def_at}
use Rattle.wit_graph.specs.Passed.wit_graph_parts-Own.{asked_types, own_parts}
use Rattle.wit_graph.specs.declared.tables.Tables.{Tables}
use Rattle.wit_pushed_trees.specs.Asked.{IsName}
use Rattle.wit_pushed_trees.specs.Found.{AskedTypesStandForTheSame}
use Rattle.wit_pushed_trees.proofs.Finding.{looked_up}

-- a place of a list is that of what stands there
mapped_place : (f : TypeDef → Option ℕ) (ds : List TypeDef) (i j : ℕ) → place_of (map f ds) i ≡ Some j → (d : TypeDef) × (slice_get ds i ≡ Some d) × (f d ≡ Some j)
mapped_place f [] i j h = absurd cc
mapped_place f (d ∷ ds) zero j h = (d, refl, h)
mapped_place f (d ∷ ds) (suc i) j h = mapped_place f ds i j h

taken_at : (n : ℕ) (ds : List TypeDef) (i : ℕ) (d : TypeDef) → slice_get (take n ds) i ≡ Some d → slice_get ds i ≡ Some d
taken_at zero ds i d h = absurd cc
taken_at (suc n) [] i d h = absurd cc
taken_at (suc n) (e ∷ ds) zero d h = h
taken_at (suc n) (e ∷ ds) (suc i) d h = taken_at n ds i d h

-- where a type is found: in an interface that is asked for, under its name
record IsFoundIn (t : Tables) (places : Places) (o : TypeOwner) (x : String Global) (j : ℕ) : Type 0 where
  pub asked : ℕ
  pub owner_is : o ≡ belongs.Interface asked
  pub place : ℕ
  pub placed : place_of places asked ≡ Some place
  pub interface : Interface
  pub there : slice_get t.interfaces.all place ≡ Some interface
  pub name : String Global
  pub listed : Has interface.types.entries (name, j)
  pub same : string_bytes x ≡ string_bytes name

in_interface : (t : Tables) (places : Places) (a : ℕ) (x : String Global) (j : ℕ) (o : Option ℕ) (e : Option Interface) → place_of places a ≡ o → interface_at t.interfaces.all o ≡ e → type_in e (Some x) ≡ Some j → IsFoundIn t places (belongs.Interface a) x j
in_interface t places a x j None e at is h = absurd (let none : type_in None (Some x) ≡ Some j = ap (λ (d : Option Interface). type_in d (Some x)) is ∙ h in cc)
in_interface t places a x j (Some l) None at is h = absurd cc
in_interface t places a x j (Some l) (Some e) at is h =
    let r = looked_up (λ (n : String Global). bytes_eq (string_bytes x) (string_bytes n)) e.types.entries j h in
    record { asked = a; owner_is = refl; place = l; placed = at; interface = e; there = is; name = r.0; listed = r.1; same = (bytes_eq-Decides (string_bytes x) (string_bytes r.0)).0 r.2 }

found_in : (t : Tables) (places : Places) (o : TypeOwner) (x : String Global) (j : ℕ) → type_in (interface_of t.interfaces.all places o) (Some x) ≡ Some j → IsFoundIn t places o x j
found_in t places (belongs.Interface a) x j h = in_interface t places a x j (place_of places a) (interface_at t.interfaces.all (place_of places a)) refl refl h
found_in t places (belongs.World w) x j h = absurd cc
found_in t places belongs.None x j h = absurd cc

-- a name of an interface has the tree that is given for it
name_tree : (given : Owner → Name → Tree) (owners : Owners) (done : List (Option Tree)) (n : Option (String Global)) (x : String Global) (o : TypeOwner) (k : TypeDefKind) (w : Owner) (u : Tree)
    → n ≡ Some x → k ≡ kind.Unknown → owner_of owners o ≡ Some w → def_tree_of owners given done n o k ≡ Some u → given w (string_bytes x) ≡ u
name_tree given owners done n x o k w u named unknown whose h =
    let one : and_then (λ v. named_kind_tree given done v (string_bytes x) k) (owner_of owners o) ≡ Some u = ap (λ (m : Option (String Global)). def_tree_of owners given done m o k) (sym named) ∙ h in
    let two : named_kind_tree given done w (string_bytes x) k ≡ Some u = ap (and_then (λ v. named_kind_tree given done v (string_bytes x) k)) (sym whose) ∙ one in
    same_Some (given w (string_bytes x)) u (ap (named_kind_tree given done w (string_bytes x)) (sym unknown) ∙ two)

pub types_asked : AskedTypesStandForTheSame
types_asked given package_owners graph_owners t foreign p whole asks found by i j u at has =
    let m = mapped_place (type_found t.interfaces.all foreign.interfaces) (own_parts p).unknown i j at in
    let d : TypeDef = m.0 in
    let is : IsName d = asks.types i d m.1 in
    let f : IsFoundIn t foreign.interfaces d.owner is.name j = found_in t foreign.interfaces d.owner is.name j (ap (type_in (interface_of t.interfaces.all foreign.interfaces d.owner)) (sym is.named) ∙ m.2) in
    let w = found.interfaces_are f.asked f.place f.placed in
    let there : HasTree graph_owners given t.types j (given w.0 (string_bytes f.name)) = by w.0 f.place f.interface w.2 f.there f.name j f.listed in
    let stands = def_at package_owners given p.types i d whole (taken_at (asked_types p) p.types i d m.1) in
    let one : stands.0 ≡ u = same_Some stands.0 u (sym stands.1 ∙ has) in
    let tree : given w.0 (string_bytes is.name) ≡ stands.0 =
    name_tree given package_owners (trees package_owners given p.types) d.name is.name d.owner d.kind w.0 stands.0 is.named is.kind (ap (owner_of package_owners) f.owner_is ∙ w.1) stands.2 in
    let same : given w.0 (string_bytes f.name) ≡ u = ap (given w.0) (sym f.same) ∙ tree ∙ one in
    subst (HasTree graph_owners given t.types j) same there
