-- Names are looked up in the tables of a graph.
use Rattle.std.proofs.Common.{◌≡◌, ◌<◌, ℕ, zero, suc, Bool, true, false, List, [], ◌∷◌, ◌++◌, ◌&&◌, map, length, Option, Some, None, bytes_eq, refl, sym, subst, ap, ◌∙◌, arith}
use Rattle.std.proofs.lemmas.Option.{same_Some, slice_get-map}
use Rattle.std.proofs.lemmas.Slice.Eq.{bytes_eq-Decides}
use Rattle.std.specs.Prelude.{String, if◌then◌else◌, option_map, string_bytes, slice_get}
use Rattle.std.specs.Map.{lookup}
use Rattle.std.specs.declared.alloc.Global.{Global}
use Rattle.wit_types.specs.declared.interface.Interface.{Interface}
use Rattle.wit_types.specs.declared.interface.TypeDef.{TypeDef}
use Rattle.wit_types.specs.declared.interface.TypeOwner.{TypeOwner}
use Rattle.wit_types.specs.declared.kind.«Type».TheVariants as ref
use Rattle.wit_types.specs.declared.kind.TypeDefKind.{TypeDefKind}
use Rattle.wit_types.specs.declared.kind.TypeDefKind.TheVariants as kind
use Rattle.wit_types.specs.declared.«package».Package.{Package}
use Rattle.wit_arena.specs.Tree as tree
use Rattle.wit_arena.specs.Tree.{Name, PackageText, Place, in_interface, in_world, in_listed, Owner, Tree}
use Rattle.wit_arena.specs.Unfold.{Owners, and_then, flat, named_kind_tree, owner_of, def_tree, def_tree_of, trees_from, trees, ref_tree, IsWhole}
use Rattle.wit_arena.specs.Standing.{HasTree}
use Rattle.wit_arena.specs.Meaning.{Has}
use Rattle.wit_arena.proofs.Lists.{has_none}
use Rattle.wit_order.specs.Order as order
use Rattle.wit_graph.specs.Passed.wit_placed-Naming.{AreNamesApart}
use Rattle.wit_graph.proofs.Passed.wit_placed-Members.{has_get}
use Rattle.wit_graph.specs.Graph.{AreWhole}
use Rattle.wit_graph.specs.declared.tables.Tables.{Tables}
use Rattle.wit_pushed_trees.specs.Apart.{AreTablesApart}
use Rattle.wit_pushed_trees.specs.Asked.{text_of}
use Rattle.wit_pushed_trees.specs.Found.{IsInterfaceOf}
use Rattle.wit_pushed_trees.specs.Giving.{KnownTypesStandAlone, GraphsGiveTheirNames}
use Rattle.wit_pushed_trees.specs.Known.{AreTypesKnown}

-- ---- trees of types that are known

module _ (owners : Owners) (any other : Owner → Name → Tree) where
  kind_same : (done : List (Option Tree)) (w : Owner) (x : Name) (k : TypeDefKind) → (k ≡ kind.Unknown → ⊥) → named_kind_tree any done w x k ≡ named_kind_tree other done w x k
  kind_same done w x (kind.Record r) known = refl
  kind_same done w x kind.Resource known = refl
  kind_same done w x (kind.Handle h) known = refl
  kind_same done w x (kind.Flags f) known = refl
  kind_same done w x (kind.Tuple t) known = refl
  kind_same done w x (kind.Variant v) known = refl
  kind_same done w x (kind.Enum e) known = refl
  kind_same done w x (kind.Option r) known = refl
  kind_same done w x (kind.Result r) known = refl
  kind_same done w x (kind.List r) known = refl
  kind_same done w x (kind.FixedLengthList r n) known = refl
  kind_same done w x (kind.Future r) known = refl
  kind_same done w x (kind.Stream r) known = refl
  kind_same done w x (kind.Alias r) known = refl
  kind_same done w x kind.Unknown known = absurd (known refl)

  owned_same : (done : List (Option Tree)) (x : Name) (k : TypeDefKind) (o : Option Owner) → (k ≡ kind.Unknown → ⊥) → and_then (λ w. named_kind_tree any done w x k) o ≡ and_then (λ w. named_kind_tree other done w x k) o
  owned_same done x k None known = refl
  owned_same done x k (Some w) known = kind_same done w x k known

  def_same : (done : List (Option Tree)) (n : Option (String Global)) (o : TypeOwner) (k : TypeDefKind) → (k ≡ kind.Unknown → ⊥) → def_tree_of owners any done n o k ≡ def_tree_of owners other done n o k
  def_same done None o k known = refl
  def_same done (Some x) o k known = owned_same done (string_bytes x) k (owner_of owners o) known

  from_same : (done : List (Option Tree)) (ds : List TypeDef) → AreTypesKnown ds → trees_from owners any done ds ≡ trees_from owners other done ds
  from_same done [] known = refl
  from_same done (d ∷ ds) known =
      ap (λ (t : Option Tree). trees_from owners any (done ++ t ∷ []) ds) (def_same done d.name d.owner d.kind (known 0 d refl)) ∙ from_same (done ++ def_tree owners other done d ∷ []) ds (λ i e at. known (suc i) e at)

  pub trees_same : (ds : List TypeDef) → AreTypesKnown ds → trees owners any ds ≡ trees owners other ds
  trees_same ds known = from_same [] ds known

pub known_alone : KnownTypesStandAlone
known_alone owners t any other known whole i l = (let w = whole i l in (w.0, subst (λ (ts : List (Option Tree)). ref_tree ts (ref.Id i) ≡ Some w.0) (trees_same owners any other t.types known) w.1))

-- ---- names

abbrev is_version : Option (List ℕ) → Option (List ℕ) → Bool
is_version None None = true
is_version None (Some b) = false
is_version (Some a) None = false
is_version (Some a) (Some b) = bytes_eq a b

abbrev is_text : PackageText → PackageText → Bool
is_text t u = bytes_eq t.namespace u.namespace && (bytes_eq t.name u.name && is_version t.version u.version)

both : (a b : Bool) → a && b ≡ true → (a ≡ true) × (b ≡ true)
both true b e = (refl, e)
both false b e = cc

version_same : (v w : Option (List ℕ)) → is_version v w ≡ true → v ≡ w
version_same None None e = refl
version_same None (Some b) e = absurd (let bad : false ≡ true = e in cc)
version_same (Some a) None e = absurd (let bad : false ≡ true = e in cc)
version_same (Some a) (Some b) e = ap (λ (x : List ℕ). Some x) ((bytes_eq-Decides a b).0 e)

same_version : (v : Option (List ℕ)) → is_version v v ≡ true
same_version None = refl
same_version (Some a) = (bytes_eq-Decides a a).1 refl

text_same : (t u : PackageText) → is_text t u ≡ true → t ≡ u
text_same t u e =
    let a = both (bytes_eq t.namespace u.namespace) (bytes_eq t.name u.name && is_version t.version u.version) e in
    let b = both (bytes_eq t.name u.name) (is_version t.version u.version) a.1 in
    let namespace : t.namespace ≡ u.namespace = (bytes_eq-Decides t.namespace u.namespace).0 a.0 in
    let name : t.name ≡ u.name = (bytes_eq-Decides t.name u.name).0 b.0 in
    ap (λ (n : Name). record { namespace = n; name = t.name; version = t.version }) namespace ∙ ap (λ (n : Name). record { namespace = u.namespace; name = n; version = t.version }) name
    ∙ ap (λ (v : Option (List ℕ)). record { namespace = u.namespace; name = u.name; version = v }) (version_same t.version u.version b.1)

same_text : (t : PackageText) → is_text t t ≡ true
same_text t = rw ((bytes_eq-Decides t.namespace t.namespace).1 refl, (bytes_eq-Decides t.name t.name).1 refl, same_version t.version) refl

-- ---- tables

abbrev find_package : PackageText → List Package → Option Package
find_package t [] = None
find_package t (q ∷ qs) = if is_text t (text_of q.name) then Some q else find_package t qs

abbrev name_test : List ℕ → String Global → Bool
name_test x n = bytes_eq x (string_bytes n)

abbrev interface_in : List Package → PackageText → Place → Option ℕ
interface_in packages t (in_interface x) = and_then (λ (q : Package). lookup (name_test x) q.interfaces.entries) (find_package t packages)
interface_in packages t (in_world x) = None
interface_in packages t (in_listed w s x) = None

abbrev interface_at : List Interface → Option ℕ → Option Interface
interface_at ds None = None
interface_at ds (Some j) = slice_get ds j

abbrev or_any : Option Tree → Tree
or_any None = tree.primitive tree.bool
or_any (Some t) = t

abbrev type_at : List (Option Tree) → Option ℕ → Option Tree
type_at done None = None
type_at done (Some k) = flat (slice_get done k)

abbrev type_under : List (Option Tree) → Name → Option Interface → Option Tree
type_under done x None = None
type_under done x (Some d) = type_at done (lookup (name_test x) d.types.entries)

found_here : (packages : List Package) (q : Package) (rest : List Package) (i : ℕ) (one : Package) → AreTablesApart (q ∷ rest) → slice_get (q ∷ rest) i ≡ Some one → text_of q.name ≡ text_of one.name → q ≡ one
found_here packages q rest i one apart at same =
    let first : 0 ≡ i = apart.packages_are 0 i q one refl at same in
    same_Some q one (ap (slice_get (q ∷ rest)) first ∙ at)

rest_apart : (q : Package) (qs : List Package) → AreTablesApart (q ∷ qs) → AreTablesApart qs
rest_apart q qs apart = record {
  packages_are = λ i j a b at_i at_j same. (let e : suc i ≡ suc j = apart.packages_are (suc i) (suc j) a b at_i at_j same in omega (arith, e));
  interfaces_are = λ a has. apart.interfaces_are a (suc has.0, has.1);
  worlds_are = λ a has. apart.worlds_are a (suc has.0, has.1);
}

package_found : (qs : List Package) (i : ℕ) (one : Package) (t : PackageText) → AreTablesApart qs → slice_get qs i ≡ Some one → t ≡ text_of one.name → find_package t qs ≡ Some one
package_found [] i one t apart at is = absurd cc
package_found (q ∷ qs) i one t apart at is = by (is_text t (text_of q.name)) refl (λ j there. package_found qs j one t (rest_apart q qs apart) there is) i at
  where
    by : (b : Bool) → is_text t (text_of q.name) ≡ b → ((j : ℕ) → slice_get qs j ≡ Some one → find_package t qs ≡ Some one) → (i : ℕ) → slice_get (q ∷ qs) i ≡ Some one → (if b then Some q else find_package t qs) ≡ Some one
    by true e rest i at = ap (λ (p : Package). Some p) (found_here qs q qs i one apart at (sym (text_same t (text_of q.name) e) ∙ is))
    by false e rest zero at =
        let same : q ≡ one = same_Some q one at in
        let yes : is_text t (text_of q.name) ≡ true = ap (is_text t) (ap (λ (p : Package). text_of p.name) same ∙ sym is) ∙ same_text t in
        absurd (let bad : true ≡ false = sym yes ∙ e in cc)
    by false e rest (suc i) at = rest i at

name_found : (es : List (String Global × ℕ)) (x : String Global) (k : ℕ) → AreNamesApart es → Has es (x, k) → lookup (name_test (string_bytes x)) es ≡ Some k
name_found [] x k apart has = absurd (has_none (x, k) has)
name_found (e ∷ es) x k apart (i, at) = by (name_test (string_bytes x) e.0) refl (λ j there. name_found es x k (λ a b f g at_a at_b same. (let z : suc a ≡ suc b = apart (suc a) (suc b) f g at_a at_b same in omega (arith, z))) (j, there)) i at
  where
    by : (b : Bool) → name_test (string_bytes x) e.0 ≡ b → ((j : ℕ) → slice_get es j ≡ Some (x, k) → lookup (name_test (string_bytes x)) es ≡ Some k) → (i : ℕ) → slice_get (e ∷ es) i ≡ Some (x, k) → (if b then Some e.1 else lookup (name_test (string_bytes x)) es) ≡ Some k
    by true t rest i at =
        let first : 0 ≡ i = apart 0 i e (x, k) refl at (sym ((bytes_eq-Decides (string_bytes x) (string_bytes e.0)).0 t)) in
        ap (λ (f : String Global × ℕ). Some f.1) (same_Some e (x, k) (ap (slice_get (e ∷ es)) first ∙ at))
    by false t rest zero at =
        let same : e ≡ (x, k) = same_Some e (x, k) at in
        let yes : name_test (string_bytes x) e.0 ≡ true = ap (λ (f : String Global × ℕ). name_test (string_bytes x) f.0) same ∙ (bytes_eq-Decides (string_bytes x) (string_bytes x)).1 refl in
        absurd (let bad : true ≡ false = sym yes ∙ t in cc)
    by false t rest (suc i) at = rest i at

-- ---- what is given

module _ (owners : Owners) (t : Tables) (any : Owner → Name → Tree) (apart : AreTablesApart t.packages) (whole : AreWhole t) (known : AreTypesKnown t.types) (trees_are : IsWhole owners any t.types) where
  abbrev done : List (Option Tree)
  done = trees owners any t.types

  abbrev given_in : Owner → Name → Tree
  given_in w x = or_any (type_under done x (interface_at t.interfaces.all (interface_in t.packages w.package_text w.place)))

  interface_found : (w : Owner) (j : ℕ) → IsInterfaceOf t.packages w j → interface_in t.packages w.package_text w.place ≡ Some j
  interface_found w j is =
      ap (interface_in t.packages w.package_text) is.place_is
      ∙ ap (and_then (λ (q : Package). lookup (name_test (string_bytes is.name)) q.interfaces.entries)) (package_found t.packages is.there.0 is.«package» w.package_text apart is.there.1 is.text)
      ∙ name_found is.«package».interfaces.entries is.name j (apart.interfaces_are is.«package» is.there) is.listed

  given_is : (w : Owner) (j : ℕ) (d : Interface) → IsInterfaceOf t.packages w j → slice_get t.interfaces.all j ≡ Some d → (x : String Global) (k : ℕ) → Has d.types.entries (x, k) → HasTree owners given_in t.types k (given_in w (string_bytes x))
  given_is w j d is at x k has =
      let there : order.Has t.interfaces.all d = has_get t.interfaces.all j d at in
      let within : k < length t.types = (whole.whole.interfaces_are d there).names k (has_get (map (λ (e : String Global × ℕ). e.1) d.types.entries) has.0 k (slice_get-map (λ (e : String Global × ℕ). e.1) d.types.entries has.0 ∙ ap (option_map (λ (e : String Global × ℕ). e.1)) has.1)) in
      let one = trees_are k within in
      let found : lookup (name_test (string_bytes x)) d.types.entries ≡ Some k = name_found d.types.entries x k (whole.whole.names d there).types has in
      let value : given_in w (string_bytes x) ≡ one.0 =
      ap (λ (o : Option ℕ). or_any (type_under done (string_bytes x) (interface_at t.interfaces.all o))) (interface_found w j is) ∙ ap (λ (o : Option Interface). or_any (type_under done (string_bytes x) o)) at
      ∙ ap (λ (o : Option ℕ). or_any (type_at done o)) found ∙ ap or_any one.1 in
      subst (λ (ts : List (Option Tree)). ref_tree ts (ref.Id k) ≡ Some (given_in w (string_bytes x))) (trees_same owners any given_in t.types known) (one.1 ∙ ap (λ (u : Tree). Some u) (sym value))

pub graphs_give : GraphsGiveTheirNames
graphs_give owners t any owned whole known trees_are = record { given = given_in owners t any owned.tables whole known trees_are; by_graph = given_is owners t any owned.tables whole known trees_are }
