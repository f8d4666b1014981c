-- What is known behind declarators: as many types as indices stand for something, and the names of exports.
use Rattle.std.proofs.Common.{◌≡◌, ◌≤◌, ℕ, ◌+◌, List, [], ◌∷◌, ◌++◌, Some, true, false, refl, sym, ap, subst, ◌∙◌, arith, append_assoc}
use Rattle.std.specs.Prelude.{fold, nat_lt}
use Rattle.std.specs.List.{flat_map}
use Rattle.std.proofs.lemmas.Bool.{ltb-true}
use Rattle.std.proofs.lemmas.List.{append-nil}
use Rattle.distinct_names.specs.Names.{is_new}
use Rattle.binary_grammar.specs.Syntax.{Meets, EachWhere}
use Rattle.binary_grammar.specs.Several.{grown}
use Rattle.wasm_types.specs.declared.types.ExportKind.TheVariants as kinds
use Rattle.component_definitions.specs.declared.sorts.ComponentSort.TheVariants as sorts
use Rattle.component_definitions.specs.declared.externs.Description.TheVariants as descriptions
use Rattle.component_definitions.specs.Aliases.{alias, instance_export, core_instance_export, outer}
use Rattle.component_definitions.specs.Sorts.{sort, sort_form_of, component_sort_of}
use Rattle.component_sections.specs.Passed.component_instances-Declarators.{DeclaratorValue, DeclaredValue, declared_type, declared_alias, declared_export, declarator, declarator_form_of, declared_with}
use Rattle.type_sinks.specs.Inside.{declares, type_count, exported_name, exported_names}
use Rattle.type_sinks.specs.Placing.{nothing_declared, DeclaratorsFollow, AreDeclaratorsPlaced}

-- so many types and no instance are there, in a component with that many types, and these names are exported
pub record AreKnown (k : DeclaredValue) (around count : ℕ) (exported : List (List ℕ)) : Type 0 where
  pub outer : k.scope.outer ≡ Some around
  pub types : k.scope.types ≡ count
  pub instances : k.scope.instances ≡ 0
  pub names : k.names ≡ exported

-- nothing is taken from an instance where there is none
no_instance : (n i : ℕ) → n ≡ 0 → nat_lt i n ≡ true → ⊥
no_instance n i none h = let lt = ltb-true i n h in absurd (omega (arith, none, lt))

one_known : (k : DeclaredValue) (around types : ℕ) (names : List (List ℕ)) (d : DeclaratorValue) → Meets declarator k d → AreKnown k around types names → AreKnown (declared_with k d) around (types + declares d) (names ++ exported_name d)
unfolding declarator declarator_form_of alias sort sort_form_of component_sort_of
one_known k around types names (declared_type t) h a = record { outer = a.outer; types = let t = a.types in omega (arith, t); instances = a.instances; names = a.names ∙ sym (append-nil names) }
one_known k around types names (declared_alias (outer count i)) h a = record { outer = a.outer; types = let t = a.types in omega (arith, t); instances = a.instances; names = a.names ∙ sym (append-nil names) }
one_known k around types names (declared_alias (instance_export sorts.Function i n)) h a = absurd (no_instance k.scope.instances i a.instances h.1.0.1.1.0.1)
one_known k around types names (declared_alias (instance_export sorts.Type_ i n)) h a = absurd (no_instance k.scope.instances i a.instances h.1.0.1.1.0.1)
one_known k around types names (declared_alias (instance_export sorts.Instance i n)) h a = absurd (no_instance k.scope.instances i a.instances h.1.0.1.1.0.1)
one_known k around types names (declared_alias (core_instance_export kinds.Func i n)) h a = record { outer = a.outer; types = let t = a.types in omega (arith, t); instances = a.instances; names = a.names ∙ sym (append-nil names) }
one_known k around types names (declared_alias (core_instance_export kinds.Table i n)) h a = record { outer = a.outer; types = let t = a.types in omega (arith, t); instances = a.instances; names = a.names ∙ sym (append-nil names) }
one_known k around types names (declared_alias (core_instance_export kinds.Memory i n)) h a = record { outer = a.outer; types = let t = a.types in omega (arith, t); instances = a.instances; names = a.names ∙ sym (append-nil names) }
one_known k around types names (declared_alias (core_instance_export kinds.Global i n)) h a = record { outer = a.outer; types = let t = a.types in omega (arith, t); instances = a.instances; names = a.names ∙ sym (append-nil names) }
one_known k around types names (declared_export n (descriptions.Function t)) h a =
    let new : is_new k.names n ≡ true = h.1.0.1 in
    record { outer = a.outer; types = let t = a.types in omega (arith, t); instances = a.instances; names = rw new (ap (λ l. l ++ n ∷ []) a.names) }
one_known k around types names (declared_export n (descriptions.Equal t)) h a =
    let new : is_new k.names n ≡ true = h.1.0.1 in
    record { outer = a.outer; types = let t = a.types in omega (arith, t); instances = a.instances; names = rw new (ap (λ l. l ++ n ∷ []) a.names) }
one_known k around types names (declared_export n descriptions.Resource) h a =
    let new : is_new k.names n ≡ true = h.1.0.1 in
    record { outer = a.outer; types = let t = a.types in omega (arith, t); instances = a.instances; names = rw new (ap (λ l. l ++ n ∷ []) a.names) }
one_known k around types names (declared_export n (descriptions.Instance t)) h a = let bad : false ≡ true = h.1.1.0.1 in absurd cc

known_behind : (k : DeclaredValue) (around types : ℕ) (names : List (List ℕ)) (ds : List DeclaratorValue) → EachWhere (Meets declarator) declared_with k ds → AreKnown k around types names
    → AreKnown (grown declared_with k ds) around (fold (λ n d. n + declares d) types ds) (names ++ flat_map exported_name ds)
known_behind k around types names [] h a = record { outer = a.outer; types = a.types; instances = a.instances; names = a.names ∙ sym (append-nil names) }
known_behind k around types names (d ∷ ds) h a =
    let rest = known_behind (declared_with k d) around (types + declares d) (names ++ exported_name d) ds h.1 (one_known k around types names d h.0 a) in
    record { outer = rest.outer; types = rest.types; instances = rest.instances; names = rest.names ∙ append_assoc names (exported_name d) (flat_map exported_name ds) }

abbrev pub behind : ℕ → List DeclaratorValue → DeclaredValue
behind n ds = grown declared_with (nothing_declared n) ds

pub known : (n : ℕ) (ds : List DeclaratorValue) → DeclaratorsFollow n ds → AreKnown (behind n ds) n (type_count ds) (exported_names ds)
unfolding type_count exported_names
known n ds h = known_behind (nothing_declared n) n 0 [] ds h (record { outer = refl; types = refl; instances = refl; names = refl })

-- ---- one more

each_push : (k : DeclaredValue) (ds : List DeclaratorValue) (d : DeclaratorValue) → EachWhere (Meets declarator) declared_with k ds → Meets declarator (grown declared_with k ds) d → EachWhere (Meets declarator) declared_with k (ds ++ d ∷ [])
each_push k [] d h one = (one, tt)
each_push k (x ∷ ds) d h one = (h.0, each_push (declared_with k x) ds d h.1 one)

pub declarators_push : (n : ℕ) (ds news : List DeclaratorValue) (d : DeclaratorValue) → news ≡ ds ++ d ∷ [] → AreDeclaratorsPlaced n ds → ((m : ℕ) → n ≤ m → AreKnown (behind m ds) m (type_count ds) (exported_names ds) → Meets declarator (behind m ds) d) → AreDeclaratorsPlaced n news
declarators_push n ds news d same h one m le = subst (DeclaratorsFollow m) (sym same) (each_push (nothing_declared m) ds d (h m le) (one m le (known m ds (h m le))))
