-- Worlds that come to graphs that say the same leave graphs that say the same, and none is refused where the others are there.
use Rattle.std.proofs.Common.{◌≡◌, ℕ, List, [], ◌∷◌, ◌++◌, refl, sym, ap, subst, ◌∙◌, map, length}
use Rattle.wit_words.specs.declared.source_map.Span.{Span}
use Rattle.wit_order.specs.Places.{Rows}
use Rattle.wit_types.specs.declared.interface.Interface.{Interface}
use Rattle.wit_types.specs.declared.world.WorldInclude.{WorldInclude}
use Rattle.wit_plans.specs.declared.moves.MovedWorld.{MovedWorld}
use Rattle.wit_joined.specs.Joined.{IncludesBreak, SidesClash, own_state, IsJoinedWorld}
use Rattle.wit_groups.specs.Passed.wit_graph_worlds-Worlds.{State}
use Rattle.wit_groups.specs.Passed.wit_graph_worlds-Added.{IsAdded, AreAdded, none_added, one_added, IsConflict, IsAddCause, AreAddCause}
use Rattle.wit_groups.specs.Passed.wit_graph_worlds-declared-worlds-WorldFault.{WorldFault}
use Rattle.wit_groups.specs.Passed.wit_graph_worlds-declared-worlds-WorldFault-TheVariants.{ItemNotFound, IncludeClash, ExportConflict, OutOfMemory}
use Rattle.wit_push_causes.specs.Said.{SaidWorld, type_said, interface_said, world_said}
use Rattle.wit_push_causes.proofs.Lists.{head_of, tail_of, not_empty, same_append, same_size}
use Rattle.wit_push_causes.proofs.Moving.{SaidMoved, moved_world_said}
use Rattle.wit_push_causes.proofs.Uses.{UseTheSame, turned, same_interfaces, conflict_same}
use Rattle.wit_push_causes.proofs.Clones.{world_clone}
use Rattle.wit_push_causes.proofs.Joining.{no_includes_break, no_sides_clash, world_joined_same, own_alike}
use Rattle.wit_push_causes.proofs.Elaborated.{elaborated_same}

pub record AreAlike (s t : State) : Type 0 where
  pub types : map type_said s.types ≡ map type_said t.types
  pub listed : map world_said s.worlds.listed ≡ map world_said t.worlds.listed
  pub elaborated : map world_said s.worlds.elaborated ≡ map world_said t.worlds.elaborated

module _ (is : List Interface) (g : Rows) (owner : ℕ) where
  -- from the front on
  abbrev Steps : List MovedWorld → State → State → Type 0
  Steps [] s u = u ≡ s
  Steps (m ∷ ms) s u = (t : State) × IsAdded is g owner m s t × Steps ms t u

  one_step : (ms : List MovedWorld) (m : MovedWorld) (s t u : State) → Steps ms s t → IsAdded is g owner m t u → Steps (ms ++ m ∷ []) s u
  one_step [] m s t u e a = (u, subst (λ (x : State). IsAdded is g owner m x u) e a, refl)
  one_step (n ∷ ms) m s t u (v, first, more) a = (v, first, one_step ms m v t u more a)

  steps : (ms : List MovedWorld) (s u : State) → AreAdded is g owner ms s u → Steps ms s u
  steps _ s _ (none_added _) = refl
  steps _ s u (one_added ms m _ t _ before a) = one_step ms m s t u (steps ms s t before) a

module _ (is js : List Interface) (interfaces : map interface_said is ≡ map interface_said js) (g h : Rows) (rows : UseTheSame g h) (owner : ℕ) where
  step_same : (m n : MovedWorld) (s t a b : State) → moved_world_said m ≡ moved_world_said n → AreAlike s t → IsAdded is g owner m s a → IsAdded js h owner n t b → AreAlike a b
  step_same m n s t a b same alike x y =
      let size : length t.worlds.listed ≡ length s.worlds.listed = sym (same_size world_said s.worlds.listed t.worlds.listed alike.listed) in
      let other = subst (λ (id : ℕ). IsJoinedWorld t.worlds.listed id owner n t.types b.types y.joined) size y.is_joined in
      let joined = world_joined_same s.worlds.listed t.worlds.listed alike.listed (length s.worlds.listed) owner m n same s.types t.types a.types b.types alike.types x.joined y.joined x.is_joined other in
      let listed : world_said x.listed ≡ world_said y.listed = world_clone x.joined x.listed x.is_listed ∙ joined.1 ∙ sym (world_clone y.joined y.listed y.is_listed) in
      let elaborated : world_said x.elaborated ≡ world_said y.elaborated =
      elaborated_same a.types b.types joined.0 is js interfaces g h rows x.joined y.joined x.elaborated y.elaborated joined.1 x.is_elaborated y.is_elaborated in
      record {
        types = joined.0;
        listed = ap (map world_said) x.listed_are
            ∙ same_append world_said s.worlds.listed (x.listed ∷ []) t.worlds.listed (y.listed ∷ []) alike.listed (ap (λ (z : SaidWorld). z ∷ []) listed)
            ∙ sym (ap (map world_said) y.listed_are);
        elaborated = ap (map world_said) x.elaborated_are
            ∙ same_append world_said s.worlds.elaborated (x.elaborated ∷ []) t.worlds.elaborated (y.elaborated ∷ []) alike.elaborated (ap (λ (z : SaidWorld). z ∷ []) elaborated)
            ∙ sym (ap (map world_said) y.elaborated_are);
      }

  steps_same : (ms ns : List MovedWorld) (s t a b : State) → map moved_world_said ms ≡ map moved_world_said ns → AreAlike s t → Steps is g owner ms s a → Steps js h owner ns t b → AreAlike a b
  steps_same [] [] s t a b same alike e f = subst (λ (z : State). AreAlike z b) (sym e) (subst (AreAlike s) (sym f) alike)
  steps_same [] (n ∷ ns) s t a b same alike x y = absurd (not_empty (moved_world_said n) (map moved_world_said ns) same)
  steps_same (m ∷ ms) [] s t a b same alike x y = absurd (not_empty (moved_world_said m) (map moved_world_said ms) (sym same))
  steps_same (m ∷ ms) (n ∷ ns) s t a b same alike (x, one, more) (y, other, others) =
      steps_same ms ns x y a b (tail_of (moved_world_said m) (moved_world_said n) (map moved_world_said ms) (map moved_world_said ns) same)
      (step_same m n s t x y (head_of (moved_world_said m) (moved_world_said n) (map moved_world_said ms) (map moved_world_said ns) same) alike one other) more others

  pub added_same : (ms ns : List MovedWorld) (s t a b : State) → map moved_world_said ms ≡ map moved_world_said ns → AreAlike s t → AreAdded is g owner ms s a → AreAdded js h owner ns t b → AreAlike a b
  added_same ms ns s t a b same alike x y = steps_same ms ns s t a b same alike (steps is g owner ms s a x) (steps js h owner ns t b y)

  -- ---- refused

  module _ (m n : MovedWorld) (same : moved_world_said m ≡ moved_world_said n) (s t a : State) (alike : AreAlike s t) (x : IsAdded is g owner m s a) where
    includes_are : n.includes.items ≡ m.includes.items
    includes_are = ap (λ (z : SaidMoved). z.includes) (sym same)

    size : length t.worlds.listed ≡ length s.worlds.listed
    size = sym (same_size world_said s.worlds.listed t.worlds.listed alike.listed)

    no_break : (at : Span) → IncludesBreak t.worlds.listed n.includes.items at → ⊥
    no_break at b =
        no_includes_break s.worlds.listed t.worlds.listed alike.listed (length s.worlds.listed) m.includes.items (own_state s.types m) x.is_joined.sides.joined at x.is_joined.sides.includes
        (subst (λ (l : List WorldInclude). IncludesBreak t.worlds.listed l at) includes_are b)

    no_clash : (at : Span) → SidesClash t.worlds.listed (length t.worlds.listed) n.includes.items (own_state t.types n) at → ⊥
    no_clash at c =
        no_sides_clash s.worlds.listed t.worlds.listed alike.listed (length s.worlds.listed) m.includes.items (own_state s.types m) (own_state t.types n) (own_alike s.types t.types m n alike.types same)
        a.types x.joined.imports.entries x.joined.exports.entries x.is_joined.sides at
        (subst (λ (l : List WorldInclude). SidesClash t.worlds.listed (length s.worlds.listed) l (own_state t.types n) at) includes_are
        (subst (λ (id : ℕ). SidesClash t.worlds.listed id n.includes.items (own_state t.types n) at) size c))

    no_conflict : (i : ℕ) → IsConflict js h owner n t i → ⊥
    no_conflict i c =
        let other = subst (λ (id : ℕ). IsJoinedWorld t.worlds.listed id owner n t.types c.types c.joined) size c.is_joined in
        let joined = world_joined_same s.worlds.listed t.worlds.listed alike.listed (length s.worlds.listed) owner m n same s.types t.types a.types c.types alike.types x.joined c.joined x.is_joined other in
        let lists = c.conflict in
        let exports = same_interfaces x.joined.exports.entries c.joined.exports.entries (ap (λ (z : SaidWorld). z.exports) joined.1) in
        x.is_elaborated.elaboration.no_conflict i
        (conflict_same h g (turned g h rows) lists.0 x.is_elaborated.lists (lists.1.exports ∙ sym exports ∙ sym x.is_elaborated.listed.exports) i lists.2)

    no_add_cause : (fault : WorldFault) → IsAddCause js h owner n t fault → fault ≡ OutOfMemory
    no_add_cause (ItemNotFound at) c = absurd (no_break at c)
    no_add_cause (IncludeClash at) c = absurd (no_clash at c)
    no_add_cause (ExportConflict i at) c = absurd (no_conflict i c.0)
    no_add_cause OutOfMemory c = refl

  refused : (ms before after : List MovedWorld) (one : MovedWorld) (s t a b : State) (fault : WorldFault) → map moved_world_said ms ≡ map moved_world_said (before ++ one ∷ after) → AreAlike s t → Steps is g owner ms s a → Steps js h owner before t b
      → IsAddCause js h owner one b fault → fault ≡ OutOfMemory
  refused [] [] after one s t a b fault same alike x y c = absurd (not_empty (moved_world_said one) (map moved_world_said after) same)
  refused [] (n ∷ before) after one s t a b fault same alike x y c = absurd (not_empty (moved_world_said n) (map moved_world_said (before ++ one ∷ after)) same)
  refused (m ∷ ms) [] after one s t a b fault same alike (x, first, more) e c =
      no_add_cause m one (head_of (moved_world_said m) (moved_world_said one) (map moved_world_said ms) (map moved_world_said after) same) s t x alike first fault (subst (λ (z : State). IsAddCause js h owner one z fault) e c)
  refused (m ∷ ms) (n ∷ before) after one s t a b fault same alike (x, first, more) (y, other, others) c =
      refused ms before after one x y a b fault (tail_of (moved_world_said m) (moved_world_said n) (map moved_world_said ms) (map moved_world_said (before ++ one ∷ after)) same)
      (step_same m n s t x y (head_of (moved_world_said m) (moved_world_said n) (map moved_world_said ms) (map moved_world_said (before ++ one ∷ after)) same) alike first other) more others c

  pub none_refused : (ms ns : List MovedWorld) (s t a : State) (fault : WorldFault) → map moved_world_said ms ≡ map moved_world_said ns → AreAlike s t → AreAdded is g owner ms s a → AreAddCause js h owner ns t fault → fault ≡ OutOfMemory
  none_refused ms ns s t a fault same alike x c =
      refused ms c.before c.after c.one s t a c.state fault (same ∙ ap (map moved_world_said) c.split) alike (steps is g owner ms s a x) (steps js h owner c.before t c.state c.added) c.cause
