-- Packages that are pushed one behind the other.
use Rattle.std.proofs.Common.{◌≡◌, ℕ, ◌+◌, Bool, List, [], ◌∷◌, ◌++◌, inl, inr, Option, Some, length, sym, subst, ap, ◌∙◌, arith, append_assoc}
use Rattle.std.proofs.lemmas.List.{append-nil, length-append, length-map}
use Rattle.std.specs.Prelude.{slice_get}
use Rattle.wit_types.specs.declared.«package».Package.{Package}
use Rattle.wit_types.specs.declared.«package».PackageName.{PackageName}
use Rattle.wit_types.specs.declared.«package».UnresolvedPackage.{UnresolvedPackage}
use Rattle.wit_features.specs.Features.{FeatureSet}
use Rattle.wit_order.specs.Order.{Has}
use Rattle.wit_graph.specs.Passed.wit_graph_parts-declared-fault-PushFault.{PushFault}
use Rattle.wit_graph.specs.Graph.{Graph, IsGraph}
use Rattle.wit_graph.specs.declared.tables.Tables.{Tables}
use Rattle.wit_graph.specs.Push.{HasMore, HasMorePackages, IsPushed, IsPushCause}
use Rattle.wit_package_order.specs.Packages.{AreAt}
use Rattle.wit_package_order.proofs.Rows.{has_there}
use Rattle.wit_groups.specs.Pushed.{ArePushed, OneIsRefused}

-- ---- more and more

twice : {X : Type 0} (a b c m n : List X) → b ≡ a ++ m → c ≡ b ++ n → c ≡ a ++ (m ++ n)
twice {X} a b c m n e f = f ∙ ap (λ (l : List X). l ++ n) e ∙ append_assoc a m n

has_more : (a b c : Tables) → HasMore a b → HasMore b c → HasMore a c
has_more a b c m n = record {
  types = m.types ++ n.types;
  types_are = twice a.types b.types c.types m.types n.types m.types_are n.types_are;
  known = m.known ++ n.known;
  natures_are = twice a.natures b.natures c.natures m.known n.known m.natures_are n.natures_are;
  interfaces = m.interfaces ++ n.interfaces;
  interfaces_are = twice a.interfaces.all b.interfaces.all c.interfaces.all m.interfaces n.interfaces m.interfaces_are n.interfaces_are;
  uses = m.uses ++ n.uses;
  uses_are = twice a.interfaces.uses b.interfaces.uses c.interfaces.uses m.uses n.uses m.uses_are n.uses_are;
  closures = m.closures ++ n.closures;
  closures_are = twice a.closures b.closures c.closures m.closures n.closures m.closures_are n.closures_are;
  listed = m.listed ++ n.listed;
  listed_are = twice a.worlds.listed b.worlds.listed c.worlds.listed m.listed n.listed m.listed_are n.listed_are;
  elaborated = m.elaborated ++ n.elaborated;
  elaborated_are = twice a.worlds.elaborated b.worlds.elaborated c.worlds.elaborated m.elaborated n.elaborated m.elaborated_are n.elaborated_are;
  packages = m.packages ++ n.packages;
  packages_are = twice a.packages b.packages c.packages m.packages n.packages m.packages_are n.packages_are;
}

pub more_twice : (a b c : Graph) → HasMorePackages a b → HasMorePackages b c → HasMorePackages a c
more_twice a b c m n = record {
  tables = has_more a.tables b.tables c.tables m.tables n.tables;
  names = m.names ++ n.names;
  names_are = twice a.names b.names c.names m.names n.names m.names_are n.names_are;
}

pub no_more : (a : Graph) → HasMorePackages a a
no_more a = record {
  tables = record {
    types = [];
    types_are = sym (append-nil a.tables.types);
    known = [];
    natures_are = sym (append-nil a.tables.natures);
    interfaces = [];
    interfaces_are = sym (append-nil a.tables.interfaces.all);
    uses = [];
    uses_are = sym (append-nil a.tables.interfaces.uses);
    closures = [];
    closures_are = sym (append-nil a.tables.closures);
    listed = [];
    listed_are = sym (append-nil a.tables.worlds.listed);
    elaborated = [];
    elaborated_are = sym (append-nil a.tables.worlds.elaborated);
    packages = [];
    packages_are = sym (append-nil a.tables.packages);
  };
  names = [];
  names_are = sym (append-nil a.names);
}

-- ---- one more is pushed

module _ (eq : PackageName → PackageName → Bool) (features : FeatureSet) where
  pub one_more : (old next new : Graph) (p : UnresolvedPackage) (ps rest : List UnresolvedPackage) (id : ℕ) → ps ≡ p ∷ rest → IsGraph next → IsPushed eq features old p next id → ArePushed eq features next rest new → ArePushed eq features old ps new
  one_more old next new p ps rest id e whole pushed more =
      subst (λ (qs : List UnresolvedPackage). ArePushed eq features old qs new) (sym e) (next, whole, subst (IsPushed eq features old p next) pushed.put.id_is pushed, more)

  pub later_refused : (old next : Graph) (p : UnresolvedPackage) (ps rest : List UnresolvedPackage) (id : ℕ) (fault : PushFault) → ps ≡ p ∷ rest → IsPushed eq features old p next id → OneIsRefused eq features next rest fault → OneIsRefused eq features old ps fault
  later_refused old next p ps rest id fault e pushed more =
      subst (λ (qs : List UnresolvedPackage). OneIsRefused eq features old qs fault) (sym e) (inr (next, subst (IsPushed eq features old p next) pushed.put.id_is pushed, more))

  pub first_refused : (old : Graph) (p : UnresolvedPackage) (ps rest : List UnresolvedPackage) (fault : PushFault) → ps ≡ p ∷ rest → IsPushCause eq features old p fault → OneIsRefused eq features old ps fault
  first_refused old p ps rest fault e cause = subst (λ (qs : List UnresolvedPackage). OneIsRefused eq features old qs fault) (sym e) (inl cause)

  -- each takes an id
  pub so_many : (old new : Graph) (ps : List UnresolvedPackage) → ArePushed eq features old ps new → length new.tables.packages ≡ length old.tables.packages + length ps
  so_many old new [] same = ap (λ (g : Graph). length g.tables.packages) same ∙ (let e : length old.tables.packages ≡ length old.tables.packages + 0 = omega arith in e)
  so_many old new (p ∷ ps) (next, whole, pushed, more) =
      let here : length next.tables.packages ≡ length old.tables.packages + 1 = ap (λ (qs : List Package). length qs) pushed.put.added.packages_are ∙ length-append old.tables.packages (pushed.put.added.q ∷ []) in
      let rest : length new.tables.packages ≡ length next.tables.packages + length ps = so_many next new ps more in
      omega (arith, here, rest)

-- ---- in their order

pub sorted_size : (ps : List UnresolvedPackage) (order : List ℕ) (sorted : List UnresolvedPackage) → AreAt ps order sorted → length sorted ≡ length order
sorted_size ps order sorted are = sym (length-map sorted (λ (p : UnresolvedPackage). Some p)) ∙ sym (ap (λ (os : List (Option UnresolvedPackage)). length os) are) ∙ length-map order (slice_get ps)

pub sorted_has : (ps : List UnresolvedPackage) (order : List ℕ) (sorted : List UnresolvedPackage) (p : UnresolvedPackage) → AreAt ps order sorted → Has sorted p → Has ps p
sorted_has ps [] [] p are h = absurd h
sorted_has ps [] (q ∷ sorted) p are h = absurd cc
sorted_has ps (i ∷ order) [] p are h = absurd h
sorted_has ps (i ∷ order) (q ∷ sorted) p are h =
    let here : slice_get ps i ≡ Some q = cc in
    let later : AreAt ps order sorted = cc in
    elim h as (λ _. Has ps p) [
      | inl same ↦ has_there ps i p (here ∙ ap Some (sym same))
      | inr rest ↦ sorted_has ps order sorted p later rest
    ]
