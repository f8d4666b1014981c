-- Interfaces of which something is asked for have texts of their own.
use Rattle.std.proofs.Common.{◌≡◌, ℕ, true, false, List, ◌++◌, inl, inr, refl, sym, subst, ◌∙◌, arith}
use Rattle.std.proofs.lemmas.Bool.{cases_Bool}
use Rattle.std.proofs.lemmas.Slice.Eq.{bytes_eq-Decides}
use Rattle.std.specs.Prelude.{bytes_eq}
use Rattle.wasm_types.specs.Entries.{ImportValue}
use Rattle.distinct_names.specs.Names.{is_new}
use Rattle.wit_types.specs.declared.function.Function.{Function}
use Rattle.wit_types.specs.declared.interface.TypeDef.{TypeDef}
use Rattle.wit_types.specs.declared.world_key.WorldKey.{WorldKey}
use Rattle.wit_types.specs.declared.world.WorldItem.TheVariants as item
use Rattle.right_components.specs.Passed.core_links-Names.{Names}
use Rattle.right_components.specs.Passed.core_links-Needed.{IsKeyOf, AreOwnNeeded, AreLinkedNeeded}
use Rattle.linked_types.specs.Reached.{ids_of, MayBeLinked}
use Rattle.right_components.specs.Passed.type_sinks-declared-root-Root.{Root}
use Rattle.linked_interfaces.specs.Passed.component_imports-Interface.{interface_name}
use Rattle.linked_interfaces.specs.Passed.component_imports-Ready.{IsInterfaceAsked, AreWritable}
use Rattle.linked_interfaces.specs.Writable.{all_linked, AreImportable, LinkedInterfacesAreWritable}
use Rattle.wit_graph.specs.Graph.{AreWhole}
use Rattle.wit_graph.specs.declared.tables.Tables.{Tables}
use Rattle.linked_worlds.specs.Importable.{IsEmptyRoot, own_and_exported, WorldsAreImportable, WorldsAreWritable}
use Rattle.linked_worlds.specs.Linked.{AreNamesOf}
use Rattle.linked_worlds.specs.Named.{AreItemsNamed}
use Rattle.wit_item_names.specs.Used.{HasText}
use Rattle.linked_worlds.proofs.Asked.{asked_are_imported}
use Rattle.linked_worlds.proofs.Naming.{texts, have_texts}
use Rattle.linked_worlds.proofs.Needed.{needed_are_linked}

module _ (t : Tables) (i : ℕ) (n : Names) (r : Root) (imports : List ImportValue) (own : List Function) (linked : List (List Function)) (whole : AreWhole t) (named : AreItemsNamed t) (are : AreNamesOf t i n)
    (root : IsEmptyRoot n r) (own_are : AreOwnNeeded n imports own) (linked_are : AreLinkedNeeded n imports linked)
  where
    -- it's imported under a text
    pub record HasItsText (j : ℕ) : Type 0 where
      pub key : WorldKey
      pub imported : IsKeyOf n key j
      pub text : List ℕ
      pub has : HasText n.known.packages n.known.interfaces key text
      pub is_name : interface_name r j ≡ text

    pub text_of : (j : ℕ) → IsInterfaceAsked n.known.types (ids_of (own_and_exported n own)) linked j → HasItsText j
    text_of j asked =
        let k = asked_are_imported t i n imports own linked whole named.taken are own_are linked_are j asked in
        let x = have_texts t i n whole are named k.0 (item.Interface j k.1.0 k.1.1) k.1.2 in
        let u = root.named j x.0 (record { key = k.0; is_key = k.1; is = x.1 }) in
        record { key = u.key; imported = u.is_key; text = interface_name r j; has = u.is; is_name = refl }

    pub one_text : (j k : ℕ) → HasItsText j → HasItsText k → interface_name r k ≡ interface_name r j → j ≡ k
    one_text j k x y e =
        let same : y.text ≡ x.text = sym y.is_name ∙ e ∙ x.is_name in
        (texts t i n whole are named).interfaces_apart x.key y.key j k x.imported.0 y.imported.0 x.imported.1 y.imported.1 x.text x.imported.2 y.imported.2 x.has (subst (HasText n.known.packages n.known.interfaces y.key) same y.has)

    importable : AreImportable r n.known.types (ids_of (own_and_exported n own)) linked
    importable = record {
      named = (let a = linked_are.so_many in let b = root.so_many in omega (arith, a, b));
      new = λ j asked. subst (λ (given : List (List ℕ)). is_new given (interface_name r j) ≡ true) (sym root.empty) refl;
      apart = λ j k less a b. elim (cases_Bool (bytes_eq (interface_name r k) (interface_name r j))) as (λ _. bytes_eq (interface_name r k) (interface_name r j) ≡ false) [
        | inl same ↦ absurd (let e : j ≡ k = one_text j k (text_of j a) (text_of k b) ((bytes_eq-Decides (interface_name r k) (interface_name r j)).0 same) in omega (arith, e, less))
        | inr differ ↦ differ
      ];
    }

    writable : LinkedInterfacesAreWritable → MayBeLinked n.known.types (all_linked linked ++ own_and_exported n own) → AreWritable r n.known.types (ids_of (own_and_exported n own)) linked
    writable law =
        subst (λ (ds : List TypeDef). MayBeLinked ds (all_linked linked ++ own_and_exported n own) → AreWritable r ds (ids_of (own_and_exported n own)) linked) (sym are.types_are)
        (λ may. law r t.types t.interfaces.all (own_and_exported n own) linked whole.whole.sound.owners whole.whole.holds whole.whole.listed whole.whole.names whole.whole.nameless
        (needed_are_linked t i n imports linked whole are linked_are) may
        (subst (λ (ds : List TypeDef). AreImportable r ds (ids_of (own_and_exported n own)) linked) are.types_are importable))

pub worlds_importable : WorldsAreImportable
worlds_importable t i n r imports own linked whole named are root own_are linked_are = importable t i n r imports own linked whole named are root own_are linked_are

pub worlds_writable : LinkedInterfacesAreWritable → WorldsAreWritable
worlds_writable law t i n r imports own linked whole named are root own_are linked_are = writable t i n r imports own linked whole named are root own_are linked_are law
