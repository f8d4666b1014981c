-- Names that things have, and things that have none.
use Rattle.std.proofs.Common.{arith, ◌≡◌, ℕ, ◌<◌, true, false, ◌&&◌, List, Option, Some, None, String, is_some, length, refl, sym, ap, subst, ◌∙◌, inl, inr, slice_get}
use Rattle.std.proofs.lemmas.Bool.{and_parts, and_cases, and_from}
use Rattle.std.proofs.lemmas.Option.{same_Some}
use Rattle.std.specs.Prelude.{◌↔◌, string_bytes}
use Rattle.std.specs.Cmp.Lexicographic.{bytes_decides}
use Rattle.std.specs.Cow.{cow_str_bytes}
use Rattle.std.specs.declared.alloc.Global.{Global}
use Rattle.std.specs.declared.borrow.CowStr.TheVariants.{Owned}
use Rattle.wit_types.specs.declared.interface.Interface.{Interface}
use Rattle.wit_types.specs.declared.interface.TypeDef.{TypeDef}
use Rattle.wit_types.specs.declared.mangling.Mangling.{Mangling}
use Rattle.wit_types.specs.declared.«package».Package.{Package}
use Rattle.wit_types.specs.declared.«package».PackageName.{PackageName}
use Rattle.wit_types.specs.declared.world_key.WorldKey.{WorldKey}
use Rattle.wit_types.specs.declared.world_key.WorldKey.TheVariants as key
use Rattle.wit_core_names.specs.Passed.wit_names-Names.{ArePackagesKnown, IsKeyText, text_of, named_in, text_at}
use Rattle.wit_types.specs.CoreName.{core_export_name}
use Rattle.wit_core_names.specs.Exports.{IsExportName, IsExportNamed, IsTextOf, kind_name, destructor_name}
use Rattle.wit_core_names.specs.Imports.{IsImportName, IsImportNamed, IsInterfaceNamed, IsModuleOf, side_module, interface_module, intrinsic_name}
use Rattle.wit_core_names.specs.Items.{CoreImport, CoreExport}
use Rattle.wit_core_names.specs.Texts.{Known, IsKeyNamed, IsNameOf, HasName, interface_text_in}
use Rattle.wit_core_items.specs.Named.{is_export_named, is_named, is_key_named, is_interface_named, is_type_named, is_import_named, IsImportOnSide}
use Rattle.wit_core_items.specs.Growing.{Name, Pair, pair_eq, name_eq}
use Rattle.wit_core_items.proofs.Placing.{there_below}

-- ---- types

module _ (types : List TypeDef) (r : ℕ) where
  pub type_has_name : is_type_named (slice_get types r) ≡ true → HasName types r
  type_has_name is = by_def (slice_get types r) refl is
    where
      by_name : (d : TypeDef) (n : Option (String Global)) → slice_get types r ≡ Some d → d.name ≡ n → is_some n ≡ true → HasName types r
      by_name d None at named is = absurd cc
      by_name d (Some n) at named is = (string_bytes n, (d, n, at, named, refl))

      by_def : (o : Option TypeDef) → slice_get types r ≡ o → is_type_named o ≡ true → HasName types r
      by_def None at is = absurd cc
      by_def (Some d) at is = by_name d d.name at refl is

  pub type_has_none : is_type_named (slice_get types r) ≡ false → (name : List ℕ) → IsNameOf types r name → ⊥
  type_has_none isnt name (d, n, at, named, is) =
      let here : is_type_named (slice_get types r) ≡ true = ap is_type_named at ∙ ap is_some named in
      absurd cc

  -- a type has one name
  pub one_name : (a b : List ℕ) → IsNameOf types r a → IsNameOf types r b → a ≡ b
  one_name a b (d, n, at, named, is) (e, m, at_e, named_e, is_e) =
      let same : d ≡ e = same_Some d e (sym at ∙ at_e) in
      let text : n ≡ m = same_Some n m (sym named ∙ ap (λ (x : TypeDef). x.name) same ∙ named_e) in
      is ∙ ap string_bytes text ∙ sym is_e

-- ---- keys

module _ (packages : List Package) (interfaces : List Interface) where
  text_there : (p : Option ℕ) (n : Option (String Global)) → ((i : ℕ) → p ≡ Some i → i < length packages) → (is_some n && is_some p) ≡ true → (text : PackageName → List ℕ → List ℕ) → (t : List ℕ) × (named_in text packages p n ≡ Some t)
  text_there None None within is text = absurd cc
  text_there None (Some n) within is text = absurd cc
  text_there (Some i) None within is text = absurd cc
  text_there (Some i) (Some n) within is text =
      let below : i < length packages = within i refl in
      let (p, at) = there_below packages i (omega arith) in
      (text p.name (string_bytes n), ap (λ (o : Option Package). text_at text o (string_bytes n)) at)

  no_text : (p : Option ℕ) (n : Option (String Global)) → (is_some n && is_some p) ≡ false → (text : PackageName → List ℕ → List ℕ) (t : List ℕ) → named_in text packages p n ≡ Some t → ⊥
  no_text None None isnt text t is = absurd cc
  no_text None (Some n) isnt text t is = absurd cc
  no_text (Some i) None isnt text t is = absurd cc
  no_text (Some i) (Some n) isnt text t is = absurd cc

  pub key_has_text : ArePackagesKnown packages interfaces → (k : WorldKey) → is_key_named interfaces k ≡ true → IsKeyNamed packages interfaces k
  key_has_text known (key.Name name) is = λ text. (string_bytes name, refl)
  key_has_text known (key.Interface i) is = λ text. by_def text (slice_get interfaces i) refl is
    where
      by_def : (text : PackageName → List ℕ → List ℕ) (o : Option Interface) → slice_get interfaces i ≡ o → is_named o ≡ true → (t : List ℕ) × ((d : Interface) × (slice_get interfaces i ≡ Some d) × (Some t ≡ text_of text packages d))
      by_def text None at is = absurd cc
      by_def text (Some d) at is = let (t, e) = text_there d.«package» d.name (λ p e. known i p d at e) is text in (t, (d, at, sym e))

  pub key_has_none : (text : PackageName → List ℕ → List ℕ) (k : WorldKey) (t : List ℕ) → is_key_named interfaces k ≡ false → IsKeyText text packages interfaces k (Some t) → ⊥
  key_has_none text (key.Name name) t isnt is = absurd cc
  key_has_none text (key.Interface i) t isnt (d, at, is) = no_text d.«package» d.name (sym (ap is_named at) ∙ isnt) text t (sym is)

  -- a key has one text
  pub one_text : (text : PackageName → List ℕ → List ℕ) (k : WorldKey) (a b : List ℕ) → IsKeyText text packages interfaces k (Some a) → IsKeyText text packages interfaces k (Some b) → a ≡ b
  one_text text (key.Name name) a b one two = same_Some a b (one ∙ sym two)
  one_text text (key.Interface i) a b (d, at, is) (e, at_e, is_e) =
      let same : d ≡ e = same_Some d e (sym at ∙ at_e) in
      same_Some a b (is ∙ ap (text_of text packages) same ∙ sym is_e)

-- ---- imports

module _ (k : Known) where
  pub interface_has_text : ArePackagesKnown k.packages k.interfaces → (o : Option WorldKey) → is_interface_named k.interfaces o ≡ true → IsInterfaceNamed k o
  interface_has_text known None is = tt
  interface_has_text known (Some key) is = key_has_text k.packages k.interfaces known key is

  module_has_none : (m : Mangling) (of_key : List ℕ → List ℕ) (o : Option WorldKey) (a : List ℕ) → is_interface_named k.interfaces o ≡ false → IsModuleOf m k of_key o a → ⊥
  module_has_none m of_key None a isnt is = absurd cc
  module_has_none m of_key (Some key) a isnt (t, is, e) = key_has_none k.packages k.interfaces (interface_text_in m) key t isnt is

  one_module : (m : Mangling) (of_key : List ℕ → List ℕ) (o : Option WorldKey) (a b : List ℕ) → IsModuleOf m k of_key o a → IsModuleOf m k of_key o b → a ≡ b
  one_module m of_key None a b one two = one ∙ sym two
  one_module m of_key (Some key) a b (t, is, e) (u, is_u, e_u) = e ∙ ap of_key (one_text k.packages k.interfaces (interface_text_in m) key t u is is_u) ∙ sym e_u

  pub import_has_name : ArePackagesKnown k.packages k.interfaces → (x : CoreImport) → IsImportOnSide x → is_import_named k x ≡ true → IsImportNamed k x
  import_has_name known (CoreImport.func o f) side is = interface_has_text known o is
  import_has_name known (CoreImport.intrinsic o r what) side is =
      let (a, b) = and_parts (is_interface_named k.interfaces o) (is_type_named (slice_get k.types r)) is in
      (interface_has_text known o a, side, type_has_name k.types r b)

  pub import_has_none : (m : Mangling) (x : CoreImport) → is_import_named k x ≡ false → (a b : List ℕ) → IsImportName m k x a b → ⊥
  import_has_none m (CoreImport.func o f) isnt a b (of, is) = module_has_none m (interface_module m) o a isnt of
  import_has_none m (CoreImport.intrinsic o r what) isnt a b (of, (n, named, is)) =
      elim (and_cases (is_interface_named k.interfaces o) (is_type_named (slice_get k.types r)) isnt) as (λ _. ⊥) [
        | inl no_key ↦ module_has_none m (side_module m what) o a no_key of
        | inr no_name ↦ type_has_none k.types r no_name n named
      ]

  -- what is imported has one name in each spelling
  pub one_import_name : (m : Mangling) (x : CoreImport) (a b c d : List ℕ) → IsImportName m k x a b → IsImportName m k x c d → (a ≡ c) × (b ≡ d)
  one_import_name m (CoreImport.func o f) a b c d (of, is) (of2, is2) = (one_module m (interface_module m) o a c of of2, is ∙ sym is2)
  one_import_name m (CoreImport.intrinsic o r what) a b c d (of, (n, named, is)) (of2, (n2, named2, is2)) =
      (one_module m (side_module m what) o a c of of2, is ∙ ap (intrinsic_name m what) (one_name k.types r n n2 named named2) ∙ sym is2)

  -- the pairs that are equal to its name
  pub import_same : (m : Mangling) (x : CoreImport) (place : ℕ) (a b : String Global) → IsImportName m k x (string_bytes a) (string_bytes b) → (q : Pair) (i : ℕ)
      → ((pair_eq q (Owned a, Owned b) ≡ true) × (place ≡ i)) ↔ ((i ≡ place) × IsImportName m k x (cow_str_bytes q.0) (cow_str_bytes q.1))
  import_same m x place a b is q i = (
    λ (e, at).
        (let (first, second) = and_parts (name_eq q.0 (Owned a)) (name_eq q.1 (Owned b)) e in (
          sym at,
          subst (λ (t : List ℕ). IsImportName m k x t (cow_str_bytes q.1)) (sym ((bytes_decides (cow_str_bytes q.0) (string_bytes a)).0 first))
              (subst (λ (t : List ℕ). IsImportName m k x (string_bytes a) t) (sym ((bytes_decides (cow_str_bytes q.1) (string_bytes b)).0 second)) is),
        )),
    λ (at, its).
        (let (first, second) = one_import_name m x (cow_str_bytes q.0) (cow_str_bytes q.1) (string_bytes a) (string_bytes b) its is in
        (and_from (name_eq q.0 (Owned a)) (name_eq q.1 (Owned b)) ((bytes_decides (cow_str_bytes q.0) (string_bytes a)).1 first) ((bytes_decides (cow_str_bytes q.1) (string_bytes b)).1 second), sym at)),
  )

  -- ---- exports

  text_has_none : (m : Mangling) (o : Option WorldKey) (found : Option (List ℕ)) → is_interface_named k.interfaces o ≡ false → IsTextOf m k o found → ⊥
  text_has_none m None found isnt is = absurd cc
  text_has_none m (Some key) found isnt (t, is, e) = key_has_none k.packages k.interfaces (interface_text_in m) key t isnt is

  one_text_of : (m : Mangling) (o : Option WorldKey) (a b : Option (List ℕ)) → IsTextOf m k o a → IsTextOf m k o b → a ≡ b
  one_text_of m None a b one two = one ∙ sym two
  one_text_of m (Some key) a b (t, is, e) (u, is_u, e_u) = e ∙ ap (λ (x : List ℕ). Some x) (one_text k.packages k.interfaces (interface_text_in m) key t u is is_u) ∙ sym e_u

  pub export_has_name : ArePackagesKnown k.packages k.interfaces → (x : CoreExport) → is_export_named k x ≡ true → IsExportNamed k x
  export_has_name known (CoreExport.func o f kind) is = interface_has_text known o is
  export_has_name known (CoreExport.destructor key r) is =
      let (a, b) = and_parts (is_key_named k.interfaces key) (is_type_named (slice_get k.types r)) is in
      (key_has_text k.packages k.interfaces known key a, type_has_name k.types r b)
  export_has_name known CoreExport.memory is = tt
  export_has_name known CoreExport.initialize is = tt
  export_has_name known CoreExport.realloc is = tt

  pub export_has_none : (m : Mangling) (x : CoreExport) → is_export_named k x ≡ false → (a : List ℕ) → IsExportName m k x a → ⊥
  export_has_none m (CoreExport.func o f kind) isnt a (of, (found, is, e), named) = text_has_none m o found isnt is
  export_has_none m (CoreExport.destructor key r) isnt a (t, n, is, named, e) =
      elim (and_cases (is_key_named k.interfaces key) (is_type_named (slice_get k.types r)) isnt) as (λ _. ⊥) [
        | inl no_key ↦ key_has_none k.packages k.interfaces (interface_text_in m) key t no_key is
        | inr no_name ↦ type_has_none k.types r no_name n named
      ]
  export_has_none m CoreExport.memory isnt a is = absurd cc
  export_has_none m CoreExport.initialize isnt a is = absurd cc
  export_has_none m CoreExport.realloc isnt a is = absurd cc

  -- what is exported has one name in each spelling
  pub one_export_name : (m : Mangling) (x : CoreExport) (a b : List ℕ) → IsExportName m k x a → IsExportName m k x b → a ≡ b
  one_export_name m (CoreExport.func o f kind) a b (of, (found, is, e), named) (of2, (found2, is2, e2), named2) =
      named ∙ ap (kind_name m kind) (e ∙ ap (λ (x : Option (List ℕ)). core_export_name m x (string_bytes f.name)) (one_text_of m o found found2 is is2) ∙ sym e2) ∙ sym named2
  one_export_name m (CoreExport.destructor key r) a b (t, n, is, named, e) (t2, n2, is2, named2, e2) =
      e ∙ ap (λ (x : List ℕ). destructor_name m x n) (one_text k.packages k.interfaces (interface_text_in m) key t t2 is is2) ∙ ap (destructor_name m t2) (one_name k.types r n n2 named named2) ∙ sym e2
  one_export_name m CoreExport.memory a b one two = one ∙ sym two
  one_export_name m CoreExport.initialize a b one two = one ∙ sym two
  one_export_name m CoreExport.realloc a b one two = one ∙ sym two

  -- the texts that are equal to its name
  pub export_same : (m : Mangling) (x : CoreExport) (place : ℕ) (a : String Global) → IsExportName m k x (string_bytes a) → (q : Name) (i : ℕ)
      → ((name_eq q (Owned a) ≡ true) × (place ≡ i)) ↔ ((i ≡ place) × IsExportName m k x (cow_str_bytes q))
  export_same m x place a is q i = (
    λ (e, at). (sym at, subst (IsExportName m k x) (sym ((bytes_decides (cow_str_bytes q) (string_bytes a)).0 e)) is),
    λ (at, its). ((bytes_decides (cow_str_bytes q) (string_bytes a)).1 (one_export_name m x (cow_str_bytes q) (string_bytes a) its is), sym at),
  )
