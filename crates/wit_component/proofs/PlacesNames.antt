-- Which core exports, and which functions, the maps' answers stand for.
use Rattle.std.proofs.Common.{◌≡◌, ℕ, Bool, true, false, List, [], ◌++◌, length, Option, Some, refl, sym, ap, subst, ◌∙◌, arith, inl, inr}
use Rattle.std.specs.Prelude.{filter, not, ◌||◌, ◌&&◌, bytes_eq, codes, Any}
use Rattle.std.specs.List.{list_any}
use Rattle.std.proofs.lemmas.Bool.{cases_Bool, or_cases}
use Rattle.std.proofs.lemmas.List.Folds.{Any-from_list_any}
use Rattle.wit_component.specs.declared.table.Candidates.{Candidates}
use Rattle.plain_worlds.specs.World.{FunctionItem}
use Rattle.wit_component.specs.CoreNames.{root, standard, standard_export, is_import_name, is_legacy_import, is_outer_memory, is_export_name, is_hook_name, is_initialize_name, is_post_return_name}
use Rattle.wit_component.specs.Linking.{CoreImport, Linking}
use Rattle.wit_component.specs.Table.{imported_by}
use Rattle.wit_component.specs.Candidates.{Stands, Notes, has, has_hook, has_post_return, named_by}
use Rattle.wit_component.proofs.PlacesLists.{bytes_eq_is, bytes_eq_sym, filter_none, filter_narrower, stands_joined, stands_same, stands_some, stands_any, any_some, any_or, any_and, any_swap}

other_text : (f : List ℕ) → f ≡ standard_export f → ⊥
other_text f e = let longer : length f ≡ length (standard_export f) = ap length e in absurd (omega arith)

texts_apart : (f name : List ℕ) → bytes_eq name (standard_export f) ≡ true → bytes_eq name f ≡ false
texts_apart f name e = elim (cases_Bool (bytes_eq name f)) [
  | inl t ↦ absurd (other_text f (sym (bytes_eq_is name f t) ∙ bytes_eq_is name (standard_export f) e))
  | inr t ↦ t
]

module _ {X : Type 0} (name : X → List ℕ) (es : List X) (look : List ℕ → Option Candidates) (notes : Notes name es look) where
  named : (rejects : Bool) (f : List ℕ) → Stands (λ e. is_export_name rejects f (name e)) es (named_by rejects look f)
  named true f = stands_same (λ e. bytes_eq (name e) (standard_export f)) (λ e. is_export_name true f (name e)) (λ e. or_false (bytes_eq (name e) (standard_export f))) es (look (standard_export f)) (notes (standard_export f))
    where
      or_false : (b : Bool) → b ≡ (b || false)
      or_false true = refl
      or_false false = refl
  named false f =
      stands_joined (λ e. bytes_eq (name e) (standard_export f)) (λ e. bytes_eq (name e) f) (λ e. texts_apart f (name e)) es (look (standard_export f)) (look f) (notes (standard_export f)) (notes f)

  -- what the two texts of an exported function have
  pub named_stands : (rejects : Bool) (f : List ℕ) (found : Option Candidates) → found ≡ named_by rejects look f → Stands (λ e. is_export_name rejects f (name e)) es found
  named_stands rejects f found is = subst (λ (o : Option Candidates). Stands (λ e. is_export_name rejects f (name e)) es o) (sym is) (named rejects f)

  there : (q : List ℕ) → list_any (λ e. bytes_eq (name e) q) es ≡ has look q
  there q = stands_any (λ e. bytes_eq (name e) q) es (look q) (notes q)

  -- two texts, of which the second is legacy
  either : (rejects : Bool) (q r : List ℕ) → list_any (λ e. bytes_eq (name e) q || (not rejects && bytes_eq (name e) r)) es ≡ (has look q || (not rejects && has look r))
  either rejects q r =
      any_or (λ e. bytes_eq (name e) q) (λ e. not rejects && bytes_eq (name e) r) es
      ∙ ap (λ b. b || list_any (λ e. not rejects && bytes_eq (name e) r) es) (there q)
      ∙ ap (λ b. has look q || b) (any_and (not rejects) (λ e. bytes_eq (name e) r) es ∙ ap (λ b. not rejects && b) (there r))

  -- what is still to come among the core exports
  pub still_offered : (rejects : Bool) (fs : List FunctionItem)
      → list_any (λ e. is_hook_name (name e) || is_initialize_name rejects (name e) || list_any (λ f. is_post_return_name rejects f.name (name e)) fs) es
      ≡ (has_hook rejects look || list_any (λ (f : FunctionItem). has_post_return rejects look f.name) fs)
  still_offered rejects fs =
      let hook : list_any (λ e. is_hook_name (name e) || is_initialize_name rejects (name e)) es ≡ has_hook rejects look =
      any_or (λ e. is_hook_name (name e)) (λ e. is_initialize_name rejects (name e)) es
      ∙ ap (λ b. b || list_any (λ e. is_initialize_name rejects (name e)) es) (there (codes "__wasm_task_hook"))
      ∙ ap (λ b. has look (codes "__wasm_task_hook") || b) (either rejects (codes "cm32p2_initialize") (codes "_initialize")) in
      let post : list_any (λ e. list_any (λ (f : FunctionItem). is_post_return_name rejects f.name (name e)) fs) es ≡ list_any (λ (f : FunctionItem). has_post_return rejects look f.name) fs =
      any_swap (λ (f : FunctionItem) e. is_post_return_name rejects f.name (name e)) es fs
      ∙ (λ i. list_any (λ (f : FunctionItem). either rejects (standard_export f.name ++ codes "_post") (codes "cabi_post_" ++ f.name) i) fs) in
      any_or (λ e. is_hook_name (name e) || is_initialize_name rejects (name e)) (λ e. list_any (λ (f : FunctionItem). is_post_return_name rejects f.name (name e)) fs) es
      ∙ ap (λ b. b || list_any (λ e. list_any (λ (f : FunctionItem). is_post_return_name rejects f.name (name e)) fs) es) hook
      ∙ ap (λ b. has_hook rejects look || b) post

-- ---- core imports, by tests of the place (standard, root), of the option and of the name

same_test : (s r j n : Bool) → (s || r) ≡ true → (j && r) ≡ false → n ≡ ((s && n) || (not j && (r && n)))
same_test true r j true e f = refl
same_test true r true false e f = refl
same_test true true false false e f = refl
same_test true false false false e f = refl
same_test false true false n e f = refl
same_test false true true n e f = absurd cc
same_test false false j n e f = absurd cc

other_name : (s r j : Bool) → ((s && false) || (not j && (r && false))) ≡ false
other_name true true true = refl
other_name true true false = refl
other_name true false true = refl
other_name true false false = refl
other_name false true true = refl
other_name false true false = refl
other_name false false true = refl
other_name false false false = refl

other_place : (s r j n : Bool) → (s || r) ≡ false → ((s && n) || (not j && (r && n))) ≡ false
other_place true r j n e = absurd cc
other_place false true j n e = absurd cc
other_place false false true n e = refl
other_place false false false n e = refl

module _ (l : Linking) (i : CoreImport) where
  pub no_name : filter (λ (f : FunctionItem). bytes_eq f.name i.name) l.world.imports ≡ [] → imported_by l i ≡ []
  no_name e =
      filter_narrower (λ (f : FunctionItem). is_import_name l.rejects_legacy i.place i.name f.name) (λ (f : FunctionItem). bytes_eq f.name i.name)
      (λ f differs. let other : bytes_eq i.name f.name ≡ false = bytes_eq_sym i.name f.name ∙ differs in
      ap (λ n. (bytes_eq i.place standard && n) || (not l.rejects_legacy && (bytes_eq i.place root && n))) other ∙ other_name (bytes_eq i.place standard) (bytes_eq i.place root) l.rejects_legacy)
      l.world.imports e

  pub no_place : (bytes_eq i.place standard || bytes_eq i.place root) ≡ false → imported_by l i ≡ []
  no_place e = filter_none (λ (f : FunctionItem). is_import_name l.rejects_legacy i.place i.name f.name) (λ f. other_place (bytes_eq i.place standard) (bytes_eq i.place root) l.rejects_legacy (bytes_eq i.name f.name) e) l.world.imports

  -- what stands under one of the two module texts isn't the memory of the surroundings
  pub no_memory : (bytes_eq i.place standard || bytes_eq i.place root) ≡ true → is_outer_memory i.place i.name ≡ false
  no_memory e = elim (or_cases (bytes_eq i.place standard) (bytes_eq i.place root) e) [
    | inl s ↦ ap (λ (p : List ℕ). is_outer_memory p i.name) (bytes_eq_is i.place standard s)
    | inr r ↦ ap (λ (p : List ℕ). is_outer_memory p i.name) (bytes_eq_is i.place root r)
  ]

  both : (a b : Bool) → (a && b) ≡ true → (a ≡ true) × (b ≡ true)
  both true b h = (refl, h)
  both false b h = absurd cc

  -- a legacy meaning
  pub legacy_meaning : (l.rejects_legacy && bytes_eq i.place root) ≡ true → (found : Candidates) → Stands (λ (f : FunctionItem). bytes_eq f.name i.name) l.world.imports (Some found)
      → (l.rejects_legacy ≡ true) × Any (λ f. is_legacy_import i.place i.name f.name ≡ true) l.world.imports
  legacy_meaning rejected found stands =
      let parts = both l.rejects_legacy (bytes_eq i.place root) rejected in
      let here : list_any (λ (f : FunctionItem). bytes_eq f.name i.name) l.world.imports ≡ true = any_some (λ (f : FunctionItem). bytes_eq f.name i.name) l.world.imports (stands_some (λ (f : FunctionItem). bytes_eq f.name i.name) l.world.imports found stands) in
      let same : (f : FunctionItem) → bytes_eq f.name i.name ≡ is_legacy_import i.place i.name f.name =
      λ f. bytes_eq_sym f.name i.name ∙ ap (λ b. b && bytes_eq i.name f.name) (sym parts.1) in
      (parts.0, Any-from_list_any (λ (f : FunctionItem). is_legacy_import i.place i.name f.name) l.world.imports (sym (λ k. list_any (λ (f : FunctionItem). same f k) l.world.imports) ∙ here))

  -- the functions of the name are those that the import may stand for
  pub import_stands : (bytes_eq i.place standard || bytes_eq i.place root) ≡ true → (l.rejects_legacy && bytes_eq i.place root) ≡ false → (found : Option Candidates)
      → Stands (λ (f : FunctionItem). bytes_eq f.name i.name) l.world.imports found → Stands (λ f. is_import_name l.rejects_legacy i.place i.name f.name) l.world.imports found
  import_stands known kept found stands =
      stands_same (λ (f : FunctionItem). bytes_eq f.name i.name) (λ f. is_import_name l.rejects_legacy i.place i.name f.name)
      (λ f. bytes_eq_sym f.name i.name ∙ same_test (bytes_eq i.place standard) (bytes_eq i.place root) l.rejects_legacy (bytes_eq i.name f.name) known kept)
      l.world.imports found stands
