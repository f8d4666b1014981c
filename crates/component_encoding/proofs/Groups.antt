-- Core functions under module texts, by the places of the texts.
use Rattle.std.proofs.Common.{◌≡◌, ◌<◌, ℕ, zero, suc, ◌+◌, List, [], ◌∷◌, ◌++◌, length, map, take, get_or, Bool, true, false, Option, Some, None, refl, sym, ap, subst, ◌∙◌, arith, append_assoc}
use Rattle.std.proofs.Math.ListN.{set}
use Rattle.std.proofs.lemmas.List.{length-map, map-append, map-set, get_or-map, take_more}
use Rattle.std.specs.Prelude.{if◌then◌else◌, option_map, bytes_eq}
use Rattle.binary_grammar.specs.Several.{grown}
use Rattle.component_builder.specs.Builder.{with_space, scope_of, index_behind}
use Rattle.component_instances.specs.declared.instances.CoreItem.{CoreItem as CoreIndex}
use Rattle.component_sections.specs.Component.{DefinitionValue, a_core_module}
use Rattle.component_value_types.specs.Combinators.{NamedValue}
use Rattle.component_value_types.specs.declared.scope.Scope.{Scope as Counted}
use Rattle.component_value_types.specs.Scope.{no_scope}
use Rattle.name_places.specs.FirstPlaces.{place_of}
use Rattle.wasm_types.specs.Entries.{import_value}
use Rattle.wasm_types.specs.declared.entries.Import.{Import}
use Rattle.component_encoding.specs.Given.{Under, under_value, with_item, core_function, AreGivenFor}
use Rattle.component_encoding.specs.Instances.{lowering_of, instance_of, arguments_from}
use Rattle.component_encoding.specs.declared.given.Group.{Group}
use Rattle.component_encoding.proofs.Lookups.{given_next}

-- ---- where a text is

pub place_below : (t : List ℕ) (ns : List (List ℕ)) (p : ℕ) → place_of t ns ≡ Some p → p < length ns
place_below t [] p h = absurd cc
place_below t (n ∷ ns) p h = by (bytes_eq t n) (place_of t ns) (λ q e. place_below t ns q e) h
  where
    by : (b : Bool) (o : Option ℕ) → ((q : ℕ) → o ≡ Some q → q < length ns) → (if b then Some 0 else option_map suc o) ≡ Some p → p < suc (length ns)
    by true o rest e = (let z : 0 ≡ p = cc in omega (arith, z))
    by false None rest e = absurd cc
    by false (Some q) rest e = (let z : suc q ≡ p = cc in let low = rest q refl in omega (arith, z, low))

abbrev texts_of : List Under → List (List ℕ)
texts_of us = map (λ (u : Under). u.text) us

abbrev grown_by : Under → NamedValue CoreIndex → Under
grown_by u x = record { text = u.text; items = u.items ++ x ∷ [] }

with_at : (us : List Under) (t : List ℕ) (x : NamedValue CoreIndex) (p : ℕ) (u : Under) → place_of t (texts_of us) ≡ Some p → u ≡ get_or us p u → set us p (grown_by u x) ≡ with_item us t x
with_at [] t x p u h at = absurd cc
with_at (v ∷ vs) t x p u h at = by (bytes_eq t v.text) (place_of t (texts_of vs)) (λ q e here. with_at vs t x q u e here) p h at
  where
    by : (b : Bool) (o : Option ℕ) → ((q : ℕ) → o ≡ Some q → u ≡ get_or vs q u → set vs q (grown_by u x) ≡ with_item vs t x) → (q : ℕ) → (if b then Some 0 else option_map suc o) ≡ Some q → u ≡ get_or (v ∷ vs) q u
        → set (v ∷ vs) q (grown_by u x) ≡ (if b then grown_by v x ∷ vs else v ∷ with_item vs t x)
    by true o rest zero e here = ap (λ (y : Under). grown_by y x ∷ vs) here
    by true o rest (suc q) e here = absurd cc
    by false None rest q e here = absurd cc
    by false (Some r) rest zero e here = absurd cc
    by false (Some r) rest (suc q) e here = (let z : r ≡ q = cc in ap (λ l. v ∷ l) (rest q (ap (λ k. Some k) z) here))

with_new : (us : List Under) (t : List ℕ) (x : NamedValue CoreIndex) → place_of t (texts_of us) ≡ None → us ++ record { text = t; items = x ∷ [] } ∷ [] ≡ with_item us t x
with_new [] t x h = refl
with_new (v ∷ vs) t x h = by (bytes_eq t v.text) (place_of t (texts_of vs)) (λ e. with_new vs t x e) h
  where
    by : (b : Bool) (o : Option ℕ) → (o ≡ None → vs ++ record { text = t; items = x ∷ [] } ∷ [] ≡ with_item vs t x) → (if b then Some 0 else option_map suc o) ≡ None
        → v ∷ vs ++ record { text = t; items = x ∷ [] } ∷ [] ≡ (if b then grown_by v x ∷ vs else v ∷ with_item vs t x)
    by true o rest e = absurd cc
    by false None rest e = ap (λ l. v ∷ l) (rest refl)
    by false (Some r) rest e = absurd cc

-- ---- groups

same_texts : (gs : List Group) → map (λ (g : Group). g.text.now) gs ≡ texts_of (map under_value gs)
same_texts [] = refl
same_texts (g ∷ gs) = ap (λ l. g.text.now ∷ l) (same_texts gs)

pub group_below : (t : List ℕ) (ns : List (List ℕ)) (gs : List Group) (p : ℕ) → ns ≡ map (λ (g : Group). g.text.now) gs → Some p ≡ place_of t ns → p < length gs
group_below t ns gs p e h =
    let low = place_below t ns p (sym h) in
    let size = ap length e in
    let same = length-map gs (λ (g : Group). g.text.now) in
    omega (arith, low, size, same)

-- one more in a group
pub one_more : (t : List ℕ) (ns : List (List ℕ)) (gs : List Group) (p : ℕ) (old new : Group) (x : NamedValue CoreIndex) → ns ≡ map (λ (g : Group). g.text.now) gs → Some p ≡ place_of t ns → old ≡ get_or gs p old → under_value new ≡ grown_by (under_value old) x
    → map under_value (set gs p new) ≡ with_item (map under_value gs) t x
one_more t ns gs p old new x e h at is =
    let low = group_below t ns gs p e h in
    let there : under_value old ≡ get_or (map under_value gs) p (under_value old) = ap under_value at ∙ sym (get_or-map under_value gs p old (under_value old) low) in
    map-set under_value gs p new ∙ ap (set (map under_value gs) p) is
    ∙ with_at (map under_value gs) t x p (under_value old) (sym (h ∙ ap (place_of t) (e ∙ same_texts gs))) there

pub one_new : (t : List ℕ) (ns : List (List ℕ)) (gs : List Group) (x : NamedValue CoreIndex) → ns ≡ map (λ (g : Group). g.text.now) gs → None ≡ place_of t ns → map under_value gs ++ record { text = t; items = x ∷ [] } ∷ [] ≡ with_item (map under_value gs) t x
one_new t ns gs x e h = with_new (map under_value gs) t x (sym (h ∙ ap (place_of t) (e ∙ same_texts gs)))

-- ---- indices of what is added one by one

pub grown_both : {S X : Type 0} (f : S → X → S) (s : S) (xs ys : List X) → grown f s (xs ++ ys) ≡ grown f (grown f s xs) ys
grown_both f s [] ys = refl
grown_both f s (x ∷ xs) ys = grown_both f (f s x) xs ys

pub lowered_count : (c : Counted) (fs : List ℕ) → (grown with_space c (map lowering_of fs)).core_functions ≡ c.core_functions + length fs
lowered_count c [] = (let e : c.core_functions ≡ c.core_functions + 0 = omega arith in e)
lowered_count c (f ∷ fs) = lowered_count (with_space c (lowering_of f)) fs ∙ (let e : suc c.core_functions + length fs ≡ c.core_functions + suc (length fs) = omega arith in e)

pub lowering_index : (ds : List DefinitionValue) (fs : List ℕ) (f : ℕ) → index_behind (ds ++ map lowering_of fs) (lowering_of f) ≡ index_behind ds (lowering_of 0) + length fs
lowering_index ds fs f = ap (λ (c : Counted). c.core_functions) (grown_both with_space no_scope ds (map lowering_of fs)) ∙ lowered_count (scope_of ds) fs

pub instance_count : (c : Counted) (us : List Under) → (grown with_space c (map instance_of us)).core_instances ≡ c.core_instances + length us
instance_count c [] = (let e : c.core_instances ≡ c.core_instances + 0 = omega arith in e)
instance_count c (u ∷ us) = instance_count (with_space c (instance_of u)) us ∙ (let e : suc c.core_instances + length us ≡ c.core_instances + suc (length us) = omega arith in e)

pub instance_index : (ds : List DefinitionValue) (us : List Under) (u : Under) → index_behind (ds ++ map instance_of us) (instance_of u) ≡ index_behind ds (instance_of (record { text = []; items = [] })) + length us
instance_index ds us u = ap (λ (c : Counted). c.core_instances) (grown_both with_space no_scope ds (map instance_of us)) ∙ instance_count (scope_of ds) us

-- a module takes no index of a core function, and lowerings none of an instance
pub behind_module : (ds es : List DefinitionValue) (bytes : List ℕ) → es ≡ ds ++ a_core_module bytes ∷ [] → index_behind es (lowering_of 0) ≡ index_behind ds (lowering_of 0)
behind_module ds es bytes is = ap (λ l. index_behind l (lowering_of 0)) is ∙ ap (λ (c : Counted). c.core_functions) (grown_both with_space no_scope ds (a_core_module bytes ∷ []))

pub same_instances : (c : Counted) (fs : List ℕ) → (grown with_space c (map lowering_of fs)).core_instances ≡ c.core_instances
same_instances c [] = refl
same_instances c (f ∷ fs) = same_instances (with_space c (lowering_of f)) fs

pub behind_lowerings : (ds es new : List DefinitionValue) (bytes fs : List ℕ) (u : Under) → es ≡ ds ++ a_core_module bytes ∷ [] → new ≡ es ++ map lowering_of fs → index_behind new (instance_of u) ≡ index_behind ds (instance_of u)
behind_lowerings ds es new bytes fs u first is =
    ap (λ l. index_behind l (instance_of u)) is ∙ ap (λ (c : Counted). c.core_instances) (grown_both with_space no_scope es (map lowering_of fs)) ∙ same_instances (scope_of es) fs
    ∙ ap (λ l. index_behind l (instance_of u)) first ∙ ap (λ (c : Counted). c.core_instances) (grown_both with_space no_scope ds (a_core_module bytes ∷ []))

-- ---- one more lowering

pub lowering_next : (start old new : List DefinitionValue) (fs : List ℕ) (k d : ℕ) → k < length fs → old ≡ start ++ map lowering_of (take k fs) → new ≡ old ++ lowering_of (get_or fs k d) ∷ [] → new ≡ start ++ map lowering_of (take (k + 1) fs)
lowering_next start old new fs k d lt was one =
    let f = get_or fs k d in
    one ∙ ap (λ l. l ++ lowering_of f ∷ []) was ∙ append_assoc start (map lowering_of (take k fs)) (lowering_of f ∷ [])
    ∙ ap (λ l. start ++ l) (sym (map-append lowering_of (take k fs) (f ∷ [])) ∙ ap (map lowering_of) (sym (take_more fs k d lt)))

pub take_length : {A : Type 0} (n : ℕ) (xs : List A) → n < length xs → length (take n xs) ≡ n
take_length n [] lt = absurd (omega (arith, lt))
take_length zero (x ∷ xs) lt = refl
take_length (suc n) (x ∷ xs) lt = ap suc (take_length n xs (omega (arith, lt)))

pub given_one_more : (start old : List DefinitionValue) (is : List Import) (fs : List ℕ) (us vs : List Under) (k f index : ℕ) (d : Import) → k < length is → k < length fs → old ≡ start ++ map lowering_of (take k fs)
    → index ≡ index_behind old (lowering_of f) → vs ≡ with_item us (import_value (get_or is k d)).place (core_function (import_value (get_or is k d)).name index)
    → AreGivenFor (index_behind start (lowering_of 0)) (map import_value (take k is)) us → AreGivenFor (index_behind start (lowering_of 0)) (map import_value (take (k + 1) is)) vs
given_one_more start old is fs us vs k f index d lt low was count one h =
    let i = get_or is k d in
    let base = index_behind start (lowering_of 0) in
    let so_many : length (map import_value (take k is)) ≡ k = length-map (take k is) import_value ∙ take_length k is lt in
    let of_functions : length (take k fs) ≡ k = take_length k fs low in
    let is_index : index ≡ base + k = count ∙ ap (λ ds. index_behind ds (lowering_of f)) was ∙ lowering_index start (take k fs) f ∙ ap (λ n. base + n) of_functions in
    let next = given_next base (map import_value (take k is)) us (import_value i) index (is_index ∙ ap (λ n. base + n) (sym so_many)) h in
    let more : map import_value (take k is) ++ import_value i ∷ [] ≡ map import_value (take (k + 1) is) = sym (map-append import_value (take k is) (i ∷ [])) ∙ ap (map import_value) (sym (take_more is k d lt)) in
    subst (λ l. AreGivenFor base l vs) more (subst (AreGivenFor base (map import_value (take k is) ++ import_value i ∷ [])) (sym one) next)

-- ---- one more instance

arguments_more : (n : ℕ) (us : List Under) (u : Under) → arguments_from n (us ++ u ∷ []) ≡ arguments_from n us ++ record { name = u.text; item = n + length us } ∷ []
arguments_more n [] u = ap (λ k. record { name = u.text; item = k } ∷ []) (let e : n ≡ n + 0 = omega arith in e)
arguments_more n (v ∷ vs) u = ap (λ l. record { name = v.text; item = n } ∷ l) (arguments_more (suc n) vs u ∙ ap (λ k. arguments_from (suc n) vs ++ record { name = u.text; item = k } ∷ []) (let e : suc n + length vs ≡ n + suc (length vs) = omega arith in e))

pub instance_next : (start old new : List DefinitionValue) (gs : List Group) (g : Group) → old ≡ start ++ map instance_of (map under_value gs) → new ≡ old ++ instance_of (under_value g) ∷ [] → new ≡ start ++ map instance_of (map under_value (gs ++ g ∷ []))
instance_next start old new gs g was one =
    one ∙ ap (λ l. l ++ instance_of (under_value g) ∷ []) was ∙ append_assoc start (map instance_of (map under_value gs)) (instance_of (under_value g) ∷ [])
    ∙ ap (λ l. start ++ l) (sym (ap (map instance_of) (map-append under_value gs (g ∷ [])) ∙ map-append instance_of (map under_value gs) (under_value g ∷ [])))

pub argument_next : (start old : List DefinitionValue) (gs : List Group) (g : Group) (args new : List (NamedValue ℕ)) (a : NamedValue ℕ) → old ≡ start ++ map instance_of (map under_value gs)
    → args ≡ arguments_from (index_behind start (instance_of (record { text = []; items = [] }))) (map under_value gs) → a ≡ record { name = g.text.now; item = index_behind old (instance_of (under_value g)) } → new ≡ args ++ a ∷ []
    → new ≡ arguments_from (index_behind start (instance_of (record { text = []; items = [] }))) (map under_value (gs ++ g ∷ []))
argument_next start old gs g args new a was are one more =
    let base = index_behind start (instance_of (record { text = []; items = [] })) in
    let at : index_behind old (instance_of (under_value g)) ≡ base + length (map under_value gs) = ap (λ ds. index_behind ds (instance_of (under_value g))) was ∙ instance_index start (map under_value gs) (under_value g) in
    more ∙ (λ i. are i ++ (one ∙ ap (λ n. record { name = g.text.now; item = n }) at) i ∷ []) ∙ sym (ap (arguments_from base) (map-append under_value gs (g ∷ [])) ∙ arguments_more base (map under_value gs) (under_value g))
