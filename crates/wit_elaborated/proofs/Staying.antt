-- What a world imports in the end stays so where more comes behind what is there.
use Rattle.std.proofs.Common.{◌≡◌, ℕ, ◌<◌, List, [], ◌∷◌, ◌++◌, inl, inr, Option, sym, ap, ◌∙◌, arith, length, map, refl}
use Rattle.std.specs.Map.{lookup}
use Rattle.std.specs.Prelude.{option_map, unwrap_or}
use Rattle.wit_reach.specs.Passed.wit_order-Order.{Has, AreDependenciesFirst}
use Rattle.wit_reach.specs.Passed.wit_order-Places.{Rows}
use Rattle.wit_reach.specs.Passed.wit_types-declared-interface-TypeDef.{TypeDef}
use Rattle.wit_reach.specs.Passed.wit_types-declared-interface-Interface.{Interface}
use Rattle.wit_reach.specs.Passed.wit_types-declared-stability-Stability-TheVariants.{Unknown}
use Rattle.wit_reach.specs.Passed.wit_types-declared-world-World.{World}
use Rattle.wit_reach.specs.Passed.wit_types-declared-world-WorldItem-TheVariants as item
use Rattle.wit_reach.specs.Passed.wit_types-declared-world_key-WorldKey-TheVariants as key
use Rattle.wit_reach.specs.Passed.wit_types-WorldKey.{key_eq}
use Rattle.wit_reach.specs.Paths.{AreBackward}
use Rattle.wit_reach.specs.Reach.{Lists, Uses, IsNeededOutside, IsStart, IsElaborated, IsConflict, IsElaboration, AreThere, ElaboratedAreThere}
use Rattle.wit_reach.specs.Lists.{item_types, IsUsedIn, AreListsOf, AreInterfacesThere, ListsAreThere}
use Rattle.wit_reach.specs.Types.{AreTypesBackward, AreTypesThere, AreSidesThere}
use Rattle.wit_reach.proofs.Growing.{get_same, used_more, used_was, needs_more, needs_was, reaches_more, reaches_was}
use Rattle.wit_reach.proofs.Items.{types_there}
use Rattle.wit_reach.proofs.There.{labelled_has}
use Rattle.wit_elaborated.specs.Elaborated.{Entry, imported, elaborated, plain_entries}
use Rattle.wit_elaborated.specs.Staying.{ElaboratedWorldsStay}

-- ---- which interfaces are imported in the end

module _ (uses rows : Rows) (backward : AreBackward (Uses uses)) (lists : Lists) (there : AreThere uses lists) where
  outside_more : (i : ℕ) → IsNeededOutside uses lists.exports i → IsNeededOutside (uses ++ rows) lists.exports i
  outside_more i (apart, (e, has, u)) = (apart, (e, has, needs_more uses rows e i u))

  outside_was : (i : ℕ) → IsNeededOutside (uses ++ rows) lists.exports i → IsNeededOutside uses lists.exports i
  outside_was i (apart, (e, has, u)) = (apart, (e, has, needs_was uses rows e i (there.exports e has) u))

  outside_there : (i : ℕ) → IsNeededOutside uses lists.exports i → i < length uses
  outside_there i (apart, (e, has, u)) = (let below : i < e = backward e i u in let within : e < length uses = there.exports e has in omega arith)

  start_more : (i : ℕ) → IsStart uses lists i → IsStart (uses ++ rows) lists i
  start_more i (inl listed) = inl listed
  start_more i (inr (inl used)) = inr (inl used)
  start_more i (inr (inr needed)) = inr (inr (outside_more i needed))

  start_was : (i : ℕ) → IsStart (uses ++ rows) lists i → IsStart uses lists i
  start_was i (inl listed) = inl listed
  start_was i (inr (inl used)) = inr (inl used)
  start_was i (inr (inr needed)) = inr (inr (outside_was i needed))

  start_there : (i : ℕ) → IsStart uses lists i → i < length uses
  start_there i (inl listed) = there.imports i listed
  start_there i (inr (inl used)) = there.used i used
  start_there i (inr (inr needed)) = outside_there i needed

  elaborated_more : (i : ℕ) → IsElaborated uses lists i → IsElaborated (uses ++ rows) lists i
  elaborated_more i (s, start, r) = (s, start_more s start, reaches_more uses rows s i r)

  elaborated_was : (i : ℕ) → IsElaborated (uses ++ rows) lists i → IsElaborated uses lists i
  elaborated_was i (s, start, r) = (let was = start_was s start in (s, was, reaches_was uses rows s i backward (start_there s was) r))

  conflict_was : (i : ℕ) → IsConflict (uses ++ rows) lists i → IsConflict uses lists i
  conflict_was i (has, (s, needed, r)) = (let was = outside_was s needed in (has, (s, was, reaches_was uses rows s i backward (outside_there s was) r)))

  first_more : (before is : List ℕ) → ((i : ℕ) → Has is i → i < length uses) → AreDependenciesFirst (length uses) (Uses uses) before is → AreDependenciesFirst (length (uses ++ rows)) (Uses (uses ++ rows)) before is
  first_more before [] l f = tt
  first_more before (i ∷ is) l f = ((f.0.0, λ j u. f.0.1 j (needs_was uses rows i j (l i (inl refl)) u)), first_more (i ∷ before) is (λ k h. l k (inr h)) f.1)

  elaboration_stays : (order : List ℕ) → ((i : ℕ) → Has order i → i < length uses) → IsElaboration uses lists order → IsElaboration (uses ++ rows) lists order
  elaboration_stays order l e = record {
    all = λ i h. e.all i (elaborated_was i h);
    only = λ i h. elaborated_more i (e.only i h);
    rising = e.rising;
    first = first_more [] order l e.first;
    no_conflict = λ i h. e.no_conflict i (conflict_was i h);
  }

-- ---- what a world lists

module _ (types more : List TypeDef) (uses rows : Rows) (world : World) (back : AreTypesBackward types) (sides : AreSidesThere types world) (there : AreInterfacesThere (length uses) world) where
  items_there : AreTypesThere types (item_types world)
  items_there = types_there types world (item_types world) refl sides

  used_in_more : (j : ℕ) → IsUsedIn types (Uses uses) world j → IsUsedIn (types ++ more) (Uses (uses ++ rows)) world j
  used_in_more j (inl u) = inl (used_more types more back (item_types world) j u)
  used_in_more j (inr (i, has, u)) = inr (i, has, needs_more uses rows i j u)

  used_in_was : (j : ℕ) → IsUsedIn (types ++ more) (Uses (uses ++ rows)) world j → IsUsedIn types (Uses uses) world j
  used_in_was j (inl u) = inl (used_was types more back (item_types world) j items_there u)
  used_in_was j (inr (i, has, u)) = inr (i, has, needs_was uses rows i j (there.imports i (labelled_has world.imports.entries i has)) u)

  lists_stay : (lists : Lists) → AreListsOf types (Uses uses) world lists → AreListsOf (types ++ more) (Uses (uses ++ rows)) world lists
  lists_stay lists are = record {
    imports = are.imports;
    used = λ j. ((λ h. used_in_more j ((are.used j).0 h)), (λ u. (are.used j).1 (used_in_was j u)));
    exports = are.exports;
  }

-- ---- what stands under the interfaces

module _ (interfaces others : List Interface) (es : List Entry) where
  abbrev at : List Interface → ℕ → Entry
  at ds i = (key.Interface i, imported ds es i)

  entry_same : (i : ℕ) → i < length interfaces → at interfaces i ≡ at (interfaces ++ others) i
  entry_same i l = ap read (sym (get_same interfaces others i l))
    where
      read : Option Interface → Entry
      read o = (key.Interface i, unwrap_or (lookup (key_eq (key.Interface i)) es) (item.Interface i Unknown (unwrap_or (option_map (λ (d : Interface). d.span) o) (record { start = 0; end = 0 }))))

  entries_same : (order : List ℕ) → ((i : ℕ) → Has order i → i < length interfaces) → map (at interfaces) order ≡ map (at (interfaces ++ others)) order
  entries_same [] l = refl
  entries_same (i ∷ is) l = ap (λ (e : Entry). e ∷ map (at interfaces) is) (entry_same i (l i (inl refl))) ∙ ap (λ (rest : List Entry). at (interfaces ++ others) i ∷ rest) (entries_same is (λ k h. l k (inr h)))

  elaborated_same : (order : List ℕ) → ((i : ℕ) → Has order i → i < length interfaces) → elaborated interfaces order es ≡ elaborated (interfaces ++ others) order es
  elaborated_same order l = ap (λ (first : List Entry). first ++ plain_entries es) (entries_same order l)

-- ---- worlds

pub worlds_stay : ListsAreThere → ElaboratedAreThere → ElaboratedWorldsStay
worlds_stay lists_there elaborated_there types more interfaces others uses rows world found back backward owners same sides there was =
    let listed : AreThere uses was.lists = lists_there types uses world was.lists was.listed owners there backward in
    let within : (i : ℕ) → Has was.order i → i < length uses = elaborated_there uses was.lists was.order listed backward was.elaboration in
    record {
      lists = was.lists;
      order = was.order;
      listed = lists_stay types more uses rows world back sides there was.lists was.listed;
      elaboration = elaboration_stays uses rows backward was.lists listed was.order within was.elaboration;
      imports = was.imports ∙ elaborated_same interfaces others world.imports.entries was.order (λ i h. (let l : i < length uses = within i h in omega (arith, same, l)));
      rest = was.rest;
    }
