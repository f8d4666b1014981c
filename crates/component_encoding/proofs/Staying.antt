-- What is said of exports stays so, whatever follows.
use Rattle.std.proofs.Common.{◌≡◌, ℕ, ◌+◌, List, [], ◌∷◌, ◌++◌, length, Option, Some, None, refl, ap, ◌∙◌}
use Rattle.std.specs.Prelude.{map, option_to_list}
use Rattle.std.specs.List.{AllByRecursion as Each}
use Rattle.std.specs.Option.{ForSome}
use Rattle.std.proofs.lemmas.List.{length-append}
use Rattle.wasm_types.specs.declared.types.ExportKind.{ExportKind}
use Rattle.wasm_types.specs.declared.types.ExportKind.TheVariants as kinds
use Rattle.wasm_types.specs.Entries.{ExportValue}
use Rattle.component_definitions.specs.declared.canonical.CanonicalOption.{CanonicalOption}
use Rattle.component_definitions.specs.declared.canonical.CanonicalOption.TheVariants as canonical
use Rattle.canonical_options.specs.Options.{encoding_option, options_with}
use Rattle.type_writing.specs.Passed.type_meaning-Items.{Origin, Entry, type_at, is_function}
use Rattle.linked_imports.specs.Passed.component_meaning-Spaces.{Spaces}
use Rattle.linked_imports.specs.Passed.link_table-Linking.{Linking}
use Rattle.linked_imports.specs.Passed.link_table-Options.{Options}
use Rattle.linked_imports.specs.Passed.link_table-Table.{ExportEntry}
use Rattle.linked_imports.specs.Passed.right_components-Ends.{IsCoreExport, IsOptionOf, the_memory, the_realloc, the_encoding, is_there, AreOptionsOf, IsLiftOf}
use Rattle.component_encoding.specs.Growing.{Grows}
use Rattle.component_encoding.specs.Exports.{IsTaken, AreShared, IsOptionFor, IsExportOf}
use Rattle.component_encoding.specs.declared.exports.Taken.{Taken}
use Rattle.component_encoding.specs.declared.exports.Shared.{Shared}
use Rattle.component_encoding.proofs.Growth.{core_stays}

-- ---- each of a list

pub each_both : {A : Type 0} (P : A → Type 0) (xs ys : List A) → Each P xs → Each P ys → Each P (xs ++ ys)
each_both P [] ys a b = b
each_both P (x ∷ xs) ys a b = (a.0, each_both P xs ys a.1 b)

pub each_stays : {A : Type 0} (P Q : A → Type 0) (xs : List A) → ((x : A) → P x → Q x) → Each P xs → Each Q xs
each_stays P Q [] h a = tt
each_stays P Q (x ∷ xs) h a = (h x a.0, each_stays P Q xs h a.1)

-- ---- core exports

pub core_export_stays : (kind : ExportKind) (s t : Spaces) (instance i : ℕ) (name : List ℕ) → Grows s t → IsCoreExport kind s instance i name → IsCoreExport kind t instance i name
core_export_stays kind s t instance i name g c = (c.0, core_stays kind s t i c.0 g c.1, c.2)

pub taken_stays : (es : List ExportValue) (kind : ExportKind) (s t : Spaces) (instance : ℕ) (x : Taken) → Grows s t → IsTaken es kind s instance x → IsTaken es kind t instance x
taken_stays es kind s t instance x g h = record { name = h.name; there = h.there; is = core_export_stays kind s t instance x.index h.name g h.is }

some_stays : {A : Type 0} (P Q : A → Type 0) (o : Option A) → ((x : A) → P x → Q x) → ForSome o P → ForSome o Q
some_stays P Q o h a = λ x e. h x (a x e)

pub shared_stay : (es : List ExportValue) (s t : Spaces) (instance : ℕ) (x : Shared) → Grows s t → AreShared es s instance x → AreShared es t instance x
shared_stay es s t instance x g h = record {
  memory = some_stays (IsTaken es kinds.Memory s instance) (IsTaken es kinds.Memory t instance) x.memory (λ y. taken_stays es kinds.Memory s t instance y g) h.memory;
  realloc = some_stays (IsTaken es kinds.Func s instance) (IsTaken es kinds.Func t instance) x.realloc (λ y. taken_stays es kinds.Func s t instance y g) h.realloc;
}

-- ---- options

pub option_stays : (l : Linking) (s t : Spaces) (instance : ℕ) (o : Options) (x : CanonicalOption) → Grows s t → IsOptionOf l s instance o x → IsOptionOf l t instance o x
option_stays l s t instance o x g (the_memory i of name a b c) = the_memory i of name a b (core_export_stays kinds.Memory s t instance i name g c)
option_stays l s t instance o x g (the_realloc i name a c) = the_realloc i name a (core_export_stays kinds.Func s t instance i name g c)
option_stays l s t instance o x g (the_encoding e a) = the_encoding e a

pub option_for_stays : (l : Linking) (s t : Spaces) (instance : ℕ) (o : Options) (asked : Option (List ℕ)) (option : ℕ → CanonicalOption) (found : Option ℕ) → Grows s t → IsOptionFor l s instance o asked option found → IsOptionFor l t instance o asked option found
option_for_stays l s t instance o asked option found g h = record { so_many = h.so_many; is = λ i e. option_stays l s t instance o (option i) g (h.is i e) }

of_found : {A B : Type 0} (P : B → Type 0) (f : A → B) (x : Option A) → ((a : A) → x ≡ Some a → P (f a)) → Each P (map f (option_to_list x))
of_found P f None h = tt
of_found P f (Some a) h = (h a refl, tt)

so_many_found : {A B : Type 0} (f : A → B) (x : Option A) → length (map f (option_to_list x)) ≡ is_there x
so_many_found f None = refl
so_many_found f (Some a) = refl

pub options_are : (l : Linking) (s : Spaces) (instance : ℕ) (o : Options) (memory realloc : Option ℕ) → IsOptionFor l s instance o o.memory canonical.Memory memory → IsOptionFor l s instance o o.realloc canonical.Realloc realloc
    → AreOptionsOf l s instance o (options_with memory realloc o.encoding)
options_are l s instance o memory realloc a b =
    let first = map canonical.Memory (option_to_list memory) in
    let second = map canonical.Realloc (option_to_list realloc) in
    let third = map encoding_option (option_to_list o.encoding) in
    record {
      each = each_both (IsOptionOf l s instance o) first (second ++ third) (of_found (IsOptionOf l s instance o) canonical.Memory memory a.is)
          (each_both (IsOptionOf l s instance o) second third (of_found (IsOptionOf l s instance o) canonical.Realloc realloc b.is) (of_found (IsOptionOf l s instance o) encoding_option o.encoding (λ e at. the_encoding e at)));
      so_many = length-append first (second ++ third) ∙ (λ i. so_many_found canonical.Memory memory i + length-append second third i) ∙ (λ i. a.so_many i + (so_many_found canonical.Realloc realloc i + so_many_found encoding_option o.encoding i)) ∙ (λ i. is_there o.memory + (b.so_many i + is_there o.encoding));
    }

-- ---- lifts

pub lift_stays : (l : Linking) (s t : Spaces) (e : ExportEntry) (o : Origin) → Grows s t → IsLiftOf l s e o → IsLiftOf l t e o
lift_stays l s t e o g h = record {
  core = h.core;
  options = h.options;
  lifts = h.lifts;
  instance = h.instance;
  item = h.item;
  is = core_stays kinds.Func s t h.core h.item g h.is;
  ends = h.ends;
  ty = h.ty;
  typed = h.typed;
  matches = h.matches;
  are = record { each = each_stays (IsOptionOf l s h.instance e.options) (IsOptionOf l t h.instance e.options) h.options (λ x. option_stays l s t h.instance e.options x g) h.are.each; so_many = h.are.so_many };
}

pub export_stays : (l : Linking) (s t : Spaces) (e : ExportEntry) (ty : ℕ) (x : Entry) → Grows s t → t.scope.types ≡ s.scope.types → IsExportOf l s e ty x → IsExportOf l t e ty x
export_stays l s t e ty x g types h = record {
  named = h.named;
  origin = h.origin;
  tree = h.tree;
  type_is = ap (λ ts. type_at is_function ts ty) types ∙ h.type_is;
  is = h.is;
  lifts = lift_stays l s t e h.origin g h.lifts;
}
