-- Packages depend on those before them alone.
use Rattle.std.proofs.Common.{◌≡◌, ℕ, ◌<◌, ◌≤◌, ◌+◌, List, [], ◌∷◌, ◌++◌, inl, inr, Some, String, sym, subst, ap, ◌∙◌, arith, length, length-append, get_or, map, refl}
use Rattle.std.proofs.lemmas.Bool.Decides.{leb_tells}
use Rattle.std.proofs.lemmas.Option.{slice_get-get_or}
use Rattle.std.specs.Prelude.{slice_get}
use Rattle.std.specs.declared.alloc.Global.{Global}
use Rattle.wit_order.specs.Order.{Has}
use Rattle.wit_types.specs.declared.interface.Interface.{Interface}
use Rattle.wit_types.specs.declared.interface.TypeDef.{TypeDef}
use Rattle.wit_types.specs.declared.world.World.{World}
use Rattle.wit_types.specs.declared.«package».Package.{Package}
use Rattle.wit_reach.specs.Deps.{AreUsed, IsInterfaceDep}
use Rattle.wit_reach.specs.Lists.{item_types, item_interfaces, interfaces_of, AreInterfacesThere, AreOwnersThere, IsNamedBy}
use Rattle.wit_reach.specs.Types.{AreSidesThere}
use Rattle.wit_reach.proofs.Holding.{held_in_order}
use Rattle.wit_reach.proofs.Growing.{get_same, used_was}
use Rattle.wit_reach.proofs.Items.{types_there}
use Rattle.wit_reach.proofs.Lists.{has_parts}
use Rattle.wit_reach.proofs.There.{used_within}
use Rattle.wit_elaborated.specs.Staying.{ElaboratedWorldsAreThere}
use Rattle.wit_names.specs.Names.{ArePackagesKnown}
use Rattle.wit_graph_parts.proofs.Passed.wit_arena-Lists.{get_more}
use Rattle.wit_graph_parts.specs.Passed.wit_graph_worlds-Sound.{IsElaborationOf}
use Rattle.wit_graph.specs.Graph.{AreWhole, IsNamedIn, in_interface, in_world, IsPackageDep}
use Rattle.wit_graph.specs.declared.tables.Tables.{Tables}
use Rattle.wit_graph.proofs.Keeping.{get_has, rows_long, uses_backward}

-- ---- ids under names

pub ids_has : (es : List (String Global × ℕ)) (i : ℕ) → Has (map (λ (e : String Global × ℕ). e.1) es) i → (e : String Global × ℕ) × Has es e × (i ≡ e.1)
ids_has [] i h = absurd h
ids_has (x ∷ es) i h =
    elim h as (λ _. (e : String Global × ℕ) × Has (x ∷ es) e × (i ≡ e.1)) [
      | inl here ↦ (x, inl refl, here)
      | inr later ↦ (let r = ids_has es i later in (r.0, inr r.1, r.2))
    ]

pub has_id : (es : List (String Global × ℕ)) (e : String Global × ℕ) → Has es e → Has (map (λ (x : String Global × ℕ). x.1) es) e.1
has_id [] e h = absurd h
has_id (x ∷ es) e h =
    elim h as (λ _. Has (map (λ (y : String Global × ℕ). y.1) (x ∷ es)) e.1) [
      | inl here ↦ inl (ap (λ (y : String Global × ℕ). y.1) here)
      | inr later ↦ inr (has_id es e later)
    ]

-- ---- what worlds are made of with all that they import in the end

module _ (t : Tables) (whole : AreWhole t) (law : ElaboratedWorldsAreThere) where
  long : length t.interfaces.uses ≡ length t.interfaces.all
  long = rows_long t.types t.interfaces.all t.interfaces.uses whole.whole.rows

  pub world_there : (i : ℕ) (w : World) → slice_get t.worlds.elaborated i ≡ Some w → i < length t.worlds.listed → AreSidesThere t.types w × AreInterfacesThere (length t.interfaces.all) w
  world_there i w at l =
      let v : World = get_or t.worlds.listed i w in
      let is : IsElaborationOf t.types t.interfaces.all t.interfaces.uses v w = whole.whole.elaborated i v w (slice_get-get_or t.worlds.listed i w l) at in
      let owners : AreOwnersThere (length t.interfaces.uses) t.types = subst (λ (n : ℕ). AreOwnersThere n t.types) (sym long) whole.whole.sound.owners in
      let found = law t.types t.interfaces.all t.interfaces.uses is.world w (uses_backward t.types t.interfaces.all t.interfaces.uses whole.whole.rows (held_in_order 0 t.types t.interfaces.all whole.whole.holds)) owners is.there.sides is.there.interfaces is.there.keys is.is_elaborated in
      (found.0, subst (λ (n : ℕ). AreInterfacesThere n w) long found.1)

  pub listed_interface : (w : World) (j : ℕ) → AreInterfacesThere (length t.interfaces.all) w → Has (item_interfaces w) j → j < length t.interfaces.all
  listed_interface w j there h =
      elim (has_parts (interfaces_of w.imports.entries) (interfaces_of w.exports.entries) j h) as (λ _. j < length t.interfaces.all) [
        | inl a ↦ there.imports j a
        | inr b ↦ there.exports j b
      ]

  -- what a package names is there
  pub named_within : (p : Package) → Has t.packages p → (j : ℕ) → IsNamedIn t p j → j < length t.interfaces.all
  named_within p has j (in_interface e h (d, at, dep)) =
      let l : e.1 < length t.interfaces.all = (whole.packages_are p has).interfaces_are e h in
      let m : j < 0 + e.1 = held_in_order 0 t.types t.interfaces.all whole.whole.holds e.1 j d at dep in
      omega (arith, l, m)
  named_within p has j (in_world e h w at (inl listed)) = listed_interface w j (world_there e.1 w at ((whole.packages_are p has).worlds_are e h)).1 listed
  named_within p has j (in_world e h w at (inr used)) = used_within (length t.interfaces.all) t.types (item_types w) j whole.whole.sound.owners used

-- ---- one package more

module _ (old new : Tables) (types : List TypeDef) (interfaces : List Interface) (elaborated : List World) (q : Package)
    (types_are : new.types ≡ old.types ++ types) (interfaces_are : new.interfaces.all ≡ old.interfaces.all ++ interfaces) (elaborated_are : new.worlds.elaborated ≡ old.worlds.elaborated ++ elaborated)
    (packages_are : new.packages ≡ old.packages ++ q ∷ []) (whole : AreWhole old) (law : ElaboratedWorldsAreThere)
  where
    interface_was : (i : ℕ) (d : Interface) → i < length old.interfaces.all → slice_get new.interfaces.all i ≡ Some d → slice_get old.interfaces.all i ≡ Some d
    interface_was i d l at = sym (get_same old.interfaces.all interfaces i l) ∙ subst (λ (ds : List Interface). slice_get ds i ≡ Some d) interfaces_are at

    named_was : (p : Package) → Has old.packages p → (j : ℕ) → IsNamedIn new p j → IsNamedIn old p j
    named_was p has j (in_interface e h (d, at, dep)) =
        let was = interface_was e.1 d ((whole.packages_are p has).interfaces_are e h) at in
        let there = (whole.whole.interfaces_are d (get_has old.interfaces.all e.1 d was)).names in
        in_interface e h (d, was, used_was old.types types whole.whole.sound.backward (map (λ (x : String Global × ℕ). x.1) d.types.entries) j there (subst (λ (ds : List TypeDef). IsInterfaceDep ds d j) types_are dep))
    named_was p has j (in_world e h w at named) =
        let l : e.1 < length old.worlds.listed = (whole.packages_are p has).worlds_are e h in
        let many : length old.worlds.elaborated ≡ length old.worlds.listed = whole.whole.sound.so_many in
        let was : slice_get old.worlds.elaborated e.1 ≡ Some w = sym (get_same old.worlds.elaborated elaborated e.1 (omega (arith, l, many))) ∙ subst (λ (ws : List World). slice_get ws e.1 ≡ Some w) elaborated_are at in
        let there = (world_there old whole law e.1 w was l).0 in
        in_world e h w was (by_cases w there named)
      where
        by_cases : (w : World) → AreSidesThere old.types w → IsNamedBy new.types w j → IsNamedBy old.types w j
        by_cases w there (inl listed) = inl listed
        by_cases w there (inr used) = inr (used_was old.types types whole.whole.sound.backward (item_types w) j (types_there old.types w (item_types w) refl there) (subst (λ (ds : List TypeDef). AreUsed ds (item_types w) j) types_are used))

    dep_was : (p r : ℕ) (dep : IsPackageDep new p r) → slice_get old.packages p ≡ Some dep.«package» → IsPackageDep old p r
    dep_was p r dep was =
        let has = get_has old.packages p dep.«package» was in
        let named = named_was dep.«package» has dep.named dep.is_named in
        record {
          other = dep.other;
          «package» = dep.«package»;
          there = was;
          named = dep.named;
          is_named = named;
          interface = dep.interface;
          interface_is = interface_was dep.named dep.interface (named_within old whole law dep.«package» has dep.named named) dep.interface_is;
          owner_is = dep.owner_is;
        }

    pub backward_more : ArePackagesKnown new.packages new.interfaces.all → (p r : ℕ) → IsPackageDep new p r → r < p
    backward_more known p r dep =
        elim (get_more old.packages q dep.«package» p (subst (λ (ps : List Package). slice_get ps p ≡ Some dep.«package») packages_are dep.there)) as (λ _. r < p) [
          | inl was ↦ whole.backward p r (dep_was p r dep was)
          | inr last ↦
              let within : r < length new.packages = known dep.named r dep.interface dep.interface_is dep.owner_is in
              let more : length new.packages ≡ length old.packages + 1 = ap (λ (ps : List Package). length ps) packages_are ∙ length-append old.packages (q ∷ []) in
              let at : p ≡ length old.packages = last.0 in
              elim (leb_tells p r) as (λ _. r < p) [
                | inl le ↦ absurd (let up : p ≤ r = le.1 in let e : r ≡ p = omega (arith, within, more, at, up) in dep.other e)
                | inr lt ↦ lt.1
              ]
        ]
