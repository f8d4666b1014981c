-- The trees of an arena as it grows.
use Rattle.std.proofs.Common.{◌≡◌, ℕ, ◌+◌, List, [], ◌∷◌, ◌++◌, inl, inr, length, Option, Some, None, refl, sym, subst, ap, ◌∙◌, arith, append_assoc, length-append, map}
use Rattle.std.proofs.lemmas.Option.{slice_get_within, same_Some}
use Rattle.std.proofs.lemmas.List.{append-nil}
use Rattle.std.proofs.lemmas.Bool.{cases_lt}
use Rattle.std.specs.Prelude.{slice_get, option_map, String, string_bytes}
use Rattle.std.specs.declared.alloc.Global.{Global}
use Rattle.wit_types.specs.declared.kind.«Type».{«Type» as Ref}
use Rattle.wit_types.specs.declared.kind.«Type».TheVariants as ref
use Rattle.wit_types.specs.declared.kind.Handle.{Handle}
use Rattle.wit_types.specs.declared.kind.Handle.TheVariants as handle
use Rattle.wit_types.specs.declared.kind.TypeDefKind.{TypeDefKind}
use Rattle.wit_types.specs.declared.kind.TypeDefKind.TheVariants as kind
use Rattle.wit_types.specs.declared.interface.TypeDef.{TypeDef}
use Rattle.wit_types.specs.declared.interface.TypeOwner.{TypeOwner}
use Rattle.wit_types.specs.declared.interface.TypeOwner.TheVariants as belongs
use Rattle.wit_arena.specs.Tree.{Name, Owner, Tree, TreeOption, Trees, a_tree, trees_and, list_tree, fixed_length_list_tree, option_tree, tuple_tree, result_tree, future_tree, stream_tree, own_tree, borrow_tree, record_tree, variant_tree, named_tree, value_of}
use Rattle.wit_arena.specs.Unfold.{Owners, flat, and_then, ref_tree, value_tree, part_tree, part_trees, handle_tree, kind_tree, named_kind_tree, owner_of, nameless_tree, def_tree_of, def_tree, trees_from, trees, IsWhole}
use Rattle.wit_arena.proofs.Lists.{get_kept, get_last, get_split}

pub flat_some : {X : Type 0} (o : Option (Option X)) (x : X) → flat o ≡ Some x → o ≡ Some (Some x)
flat_some None x h = absurd cc
flat_some {X} (Some p) x h = ap (λ (q : Option X). Some q) h

pub option_map_some : {X Y : Type 0} (f : X → Y) (o : Option X) (y : Y) → option_map f o ≡ Some y → (x : X) × (o ≡ Some x) × (f x ≡ y)
option_map_some f None y h = absurd cc
option_map_some f (Some x) y h = (x, refl, same_Some (f x) y h)

-- what is made of an option is made of another that keeps what it has
pub kept_map : {X Y : Type 0} (f : X → Y) (o p : Option X) (y : Y) → ((x : X) → o ≡ Some x → p ≡ Some x) → option_map f o ≡ Some y → option_map f p ≡ Some y
kept_map {X} {Y} f o p y keep h = let m = option_map_some f o y h in ap (option_map f) (keep m.0 m.1) ∙ ap (λ (z : Y). Some z) m.2

pub kept_then : {X Y : Type 0} (f g : X → Option Y) (o p : Option X) (y : Y) → ((x : X) → o ≡ Some x → p ≡ Some x) → ((x : X) → f x ≡ Some y → g x ≡ Some y)
    → and_then f o ≡ Some y → and_then g p ≡ Some y
kept_then f g None p y keep go h = absurd cc
kept_then f g (Some x) p y keep go h = ap (and_then g) (keep x refl) ∙ go x h

-- more trees behind leave what has a tree as it is
module _ (done more : List (Option Tree)) where
  id_more : (i : ℕ) (t : Tree) → flat (slice_get done i) ≡ Some t → flat (slice_get (done ++ more) i) ≡ Some t
  id_more i t h = ap flat (get_kept done more i (Some t) (flat_some (slice_get done i) t h))

  pub ref_more : (r : Ref) (t : Tree) → ref_tree done r ≡ Some t → ref_tree (done ++ more) r ≡ Some t
  ref_more (ref.Id i) t h = id_more i t h
  ref_more _ t h = h

  value_more : (r : Ref) (t : Tree) → value_tree done r ≡ Some t → value_tree (done ++ more) r ≡ Some t
  value_more r t h = kept_map value_of (ref_tree done r) (ref_tree (done ++ more) r) t (ref_more r) h

  pub part_more : (p : Option Ref) (t : TreeOption) → part_tree done p ≡ Some t → part_tree (done ++ more) p ≡ Some t
  part_more None t h = h
  part_more (Some r) t h = kept_map a_tree (value_tree done r) (value_tree (done ++ more) r) t (value_more r) h

  parts_more : (ps : List (Option Ref)) (ts : Trees) → part_trees done ps ≡ Some ts → part_trees (done ++ more) ps ≡ Some ts
  parts_more [] ts h = h
  parts_more (p ∷ ps) ts h =
      kept_then (λ t. option_map (trees_and t) (part_trees done ps)) (λ t. option_map (trees_and t) (part_trees (done ++ more) ps)) (part_tree done p) (part_tree (done ++ more) p) ts
      (part_more p) (λ t. kept_map (trees_and t) (part_trees done ps) (part_trees (done ++ more) ps) ts (parts_more ps)) h

  handle_more : (x : Handle) (t : Tree) → handle_tree done x ≡ Some t → handle_tree (done ++ more) x ≡ Some t
  handle_more (handle.Own i) t h = kept_map own_tree (flat (slice_get done i)) (flat (slice_get (done ++ more) i)) t (id_more i) h
  handle_more (handle.Borrow i) t h = kept_map borrow_tree (flat (slice_get done i)) (flat (slice_get (done ++ more) i)) t (id_more i) h

  kind_more : (k : TypeDefKind) (t : Tree) → kind_tree done k ≡ Some t → kind_tree (done ++ more) k ≡ Some t
  kind_more (kind.Record r) t h =
      let rs : List (Option Ref) = map (λ f. Some f.ty) r.fields.items in
      kept_map (record_tree (map (λ f. string_bytes f.name) r.fields.items)) (part_trees done rs) (part_trees (done ++ more) rs) t (parts_more rs) h
  kind_more kind.Resource t h = h
  kind_more (kind.Handle x) t h = handle_more x t h
  kind_more (kind.Flags f) t h = h
  kind_more (kind.Tuple p) t h =
      let rs : List (Option Ref) = map (λ r. Some r) p.types.items in
      kept_map tuple_tree (part_trees done rs) (part_trees (done ++ more) rs) t (parts_more rs) h
  kind_more (kind.Variant v) t h =
      let rs : List (Option Ref) = map (λ c. c.ty) v.cases.items in
      kept_map (variant_tree (map (λ c. string_bytes c.name) v.cases.items)) (part_trees done rs) (part_trees (done ++ more) rs) t (parts_more rs) h
  kind_more (kind.Enum e) t h = h
  kind_more (kind.Option r) t h = kept_map option_tree (value_tree done r) (value_tree (done ++ more) r) t (value_more r) h
  kind_more (kind.Result r) t h =
      kept_then (λ u. option_map (result_tree u) (part_tree done r.err)) (λ u. option_map (result_tree u) (part_tree (done ++ more) r.err)) (part_tree done r.ok) (part_tree (done ++ more) r.ok) t
      (part_more r.ok) (λ u. kept_map (result_tree u) (part_tree done r.err) (part_tree (done ++ more) r.err) t (part_more r.err)) h
  kind_more (kind.List r) t h = kept_map list_tree (value_tree done r) (value_tree (done ++ more) r) t (value_more r) h
  kind_more (kind.FixedLengthList r n) t h = kept_map (λ u. fixed_length_list_tree u n) (value_tree done r) (value_tree (done ++ more) r) t (value_more r) h
  kind_more (kind.Future r) t h = kept_map future_tree (part_tree done r) (part_tree (done ++ more) r) t (part_more r) h
  kind_more (kind.Stream r) t h = kept_map stream_tree (part_tree done r) (part_tree (done ++ more) r) t (part_more r) h
  kind_more (kind.Alias r) t h = ref_more r t h
  kind_more kind.Unknown t h = h

  named_more : (given : Owner → Name → Tree) (o : Owner) (x : Name) (k : TypeDefKind) (t : Tree) → named_kind_tree given done o x k ≡ Some t → named_kind_tree given (done ++ more) o x k ≡ Some t
  named_more given o x kind.Resource t h = h
  named_more given o x kind.Unknown t h = h
  named_more given o x k t h = kept_map (named_tree o x) (kind_tree done k) (kind_tree (done ++ more) k) t (kind_more k) h

  nameless_more : (o : TypeOwner) (k : TypeDefKind) (t : Tree) → nameless_tree done o k ≡ Some t → nameless_tree (done ++ more) o k ≡ Some t
  nameless_more belongs.None k t h = kind_more k t h
  nameless_more (belongs.World w) k t h = h
  nameless_more (belongs.Interface i) k t h = h

module _ (owners : Owners) (given : Owner → Name → Tree) where
  def_of_more : (done more : List (Option Tree)) (n : Option (String Global)) (o : TypeOwner) (k : TypeDefKind) (t : Tree)
      → def_tree_of owners given done n o k ≡ Some t → def_tree_of owners given (done ++ more) n o k ≡ Some t
  def_of_more done more None o k t h = nameless_more done more o k t h
  def_of_more done more (Some x) o k t h =
      kept_then (λ w. named_kind_tree given done w (string_bytes x) k) (λ w. named_kind_tree given (done ++ more) w (string_bytes x) k) (owner_of owners o) (owner_of owners o) t
      (λ w e. e) (λ w. named_more done more given w (string_bytes x) k t) h

  def_more : (done more : List (Option Tree)) (d : TypeDef) (t : Tree) → def_tree owners given done d ≡ Some t → def_tree owners given (done ++ more) d ≡ Some t
  def_more done more d t h = def_of_more done more d.name d.owner d.kind t h

  trees_append : (done : List (Option Tree)) (xs ys : List TypeDef) → trees_from owners given done (xs ++ ys) ≡ trees_from owners given (trees_from owners given done xs) ys
  trees_append done [] ys = refl
  trees_append done (x ∷ xs) ys = trees_append (done ++ def_tree owners given done x ∷ []) xs ys

  trees_length : (done : List (Option Tree)) (xs : List TypeDef) → length (trees_from owners given done xs) ≡ length done + length xs
  trees_length done [] = omega arith
  trees_length done (x ∷ xs) =
      let e = trees_length (done ++ def_tree owners given done x ∷ []) xs in
      let l = length-append done (def_tree owners given done x ∷ []) in
      omega (arith, e, l)

  -- the trees of a longer arena begin with those of the shorter one
  trees_grow : (done : List (Option Tree)) (ys : List TypeDef) → (more : List (Option Tree)) × (trees_from owners given done ys ≡ done ++ more)
  trees_grow done [] = ([], sym (append-nil done))
  trees_grow done (y ∷ ys) =
      let r = trees_grow (done ++ def_tree owners given done y ∷ []) ys in
      (def_tree owners given done y ∷ r.0, r.1 ∙ append_assoc done (def_tree owners given done y ∷ []) r.0)

  trees_begin : (a more : List TypeDef) → (rest : List (Option Tree)) × (trees owners given (a ++ more) ≡ trees owners given a ++ rest)
  trees_begin a more = (let r = trees_grow (trees owners given a) more in (r.0, trees_append [] a more ∙ r.1))

  pub ref_kept : (a more : List TypeDef) (r : Ref) (t : Tree) → ref_tree (trees owners given a) r ≡ Some t → ref_tree (trees owners given (a ++ more)) r ≡ Some t
  ref_kept a more r t h =
      let k = trees_begin a more in
      subst (λ (ts : List (Option Tree)). ref_tree ts r ≡ Some t) (sym k.1) (ref_more (trees owners given a) k.0 r t h)

  pub part_kept : (a more : List TypeDef) (p : Option Ref) (t : TreeOption) → part_tree (trees owners given a) p ≡ Some t → part_tree (trees owners given (a ++ more)) p ≡ Some t
  part_kept a more p t h =
      let k = trees_begin a more in
      subst (λ (ts : List (Option Tree)). part_tree ts p ≡ Some t) (sym k.1) (part_more (trees owners given a) k.0 p t h)

  -- what stands last has the tree that its parts give
  get_added : (a : List TypeDef) (d : TypeDef) → slice_get (trees owners given (a ++ d ∷ [])) (length a) ≡ Some (def_tree owners given (trees owners given a) d)
  get_added a d =
      let n : length (trees owners given a) ≡ length a = trees_length [] a ∙ (let z : 0 + length a ≡ length a = omega arith in z) in
      subst (λ (i : ℕ). slice_get (trees owners given (a ++ d ∷ [])) i ≡ Some (def_tree owners given (trees owners given a) d)) n
      (rw (trees_append [] a (d ∷ [])) (get_last (trees owners given a) (def_tree owners given (trees owners given a) d)))

  pub added : (a : List TypeDef) (d : TypeDef) (t : Tree) → def_tree owners given (trees owners given a) d ≡ Some t → ref_tree (trees owners given (a ++ d ∷ [])) (ref.Id (length a)) ≡ Some t
  added a d t h = ap flat (get_added a d) ∙ h

  -- what stands at an id is what its definition's parts give
  pub def_at : (b : List TypeDef) (i : ℕ) (d : TypeDef) → IsWhole owners given b → slice_get b i ≡ Some d → (t : Tree) × (ref_tree (trees owners given b) (ref.Id i) ≡ Some t) × (def_tree owners given (trees owners given b) d ≡ Some t)
  def_at b i d whole at =
      let p = get_split b i d at in
      let front : List TypeDef = p.0 ++ d ∷ [] in
      let b_is : b ≡ front ++ p.1 = p.2 ∙ sym (append_assoc p.0 (d ∷ []) p.1) in
      let w = whole i (slice_get_within b i d at) in
      let more = trees_begin front p.1 in
      let here : slice_get (trees owners given front) i ≡ Some (def_tree owners given (trees owners given p.0) d) =
      subst (λ (k : ℕ). slice_get (trees owners given front) k ≡ Some (def_tree owners given (trees owners given p.0) d)) p.3 (get_added p.0 d) in
      let all : slice_get (trees owners given b) i ≡ Some (def_tree owners given (trees owners given p.0) d) =
      subst (λ (a : List TypeDef). slice_get (trees owners given a) i ≡ Some (def_tree owners given (trees owners given p.0) d)) (sym b_is)
      (subst (λ (ts : List (Option Tree)). slice_get ts i ≡ Some (def_tree owners given (trees owners given p.0) d)) (sym more.1)
      (get_kept (trees owners given front) more.0 i (def_tree owners given (trees owners given p.0) d) here)) in
      let known : def_tree owners given (trees owners given p.0) d ≡ Some w.0 = sym (ap flat all) ∙ w.1 in
      let up = trees_begin p.0 (d ∷ p.1) in
      let later : def_tree owners given (trees owners given b) d ≡ Some w.0 =
      subst (λ (a : List TypeDef). def_tree owners given (trees owners given a) d ≡ Some w.0) (sym p.2)
      (subst (λ (ts : List (Option Tree)). def_tree owners given ts d ≡ Some w.0) (sym up.1) (def_more (trees owners given p.0) up.0 d w.0 known)) in
      (w.0, w.1, later)

  pub stands_at : (b : List TypeDef) (i : ℕ) (d : TypeDef) (t : Tree) → IsWhole owners given b → slice_get b i ≡ Some d → def_tree owners given (trees owners given b) d ≡ Some t
      → ref_tree (trees owners given b) (ref.Id i) ≡ Some t
  stands_at b i d t whole at tree = (let w = def_at b i d whole at in w.1 ∙ sym w.2 ∙ tree)

  pub whole_none : IsWhole owners given []
  whole_none i l = absurd (omega arith)

  pub whole_more : (b : List TypeDef) (d : TypeDef) (t : Tree) → IsWhole owners given b → def_tree owners given (trees owners given b) d ≡ Some t → IsWhole owners given (b ++ d ∷ [])
  whole_more b d t whole h i l =
      let n : length (b ++ d ∷ []) ≡ length b + 1 = length-append b (d ∷ []) in
      elim (cases_lt i (length b)) as (λ _. (t : Tree) × (ref_tree (trees owners given (b ++ d ∷ [])) (ref.Id i) ≡ Some t)) [
        | inl less ↦ (let w = whole i less in (w.0, ref_kept b (d ∷ []) (ref.Id i) w.0 w.1))
        | inr more ↦ (let e : length b ≡ i = omega arith in (t, subst (λ (k : ℕ). ref_tree (trees owners given (b ++ d ∷ [])) (ref.Id k) ≡ Some t) e (added b d t h)))
      ]
