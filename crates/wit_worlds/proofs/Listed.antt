-- What stands for the members of a world, one behind the other.
use Rattle.std.proofs.Common.{◌≡◌, ℕ, ◌+◌, ◌-◌, List, [], ◌∷◌, ◌++◌, length, length-append, Some, take, drop, refl, sym, subst, ap, ◌∙◌, append-nil, append_assoc, arith}
use Rattle.std.proofs.lemmas.List.{length-drop}
use Rattle.std.proofs.Math.Seq.{take-length}
use Rattle.std.proofs.lemmas.Grind.{flat_map-append}
use Rattle.std.specs.Prelude.{slice_get, flat_map}
use Rattle.wit_types.specs.declared.function.Function.{Function}
use Rattle.wit_types.specs.declared.world.WorldInclude.{WorldInclude}
use Rattle.wit_scopes.specs.declared.worlds.Side.{Side}
use Rattle.wit_scopes.specs.declared.worlds.Side.TheVariants.{Import, Export}
use Rattle.wit_scopes.specs.Members.{MemberTree}
use Rattle.wit_scopes.specs.Scopes as scope
use Rattle.wit_scopes.specs.Scopes.{ExternKind, ListedTree, IncludedTree, WorldMemberTree}
use Rattle.wit_arena.specs.Tree.{Name}
use Rattle.wit_arena.specs.Standing.{IsOfType}
use Rattle.wit_resolved_scopes.specs.Passed.wit_functions-Signature.{IsFunction}
use Rattle.wit_resolved_scopes.specs.Each.{Each}
use Rattle.wit_resolved_scopes.specs.Scope.{member_function, functions_among}
use Rattle.wit_resolved_scopes.specs.Texts.{listed_text, extern_texts, member_texts, listed_member, own_member, own_members, at_side, side_member, side_members, included_in, includes_of}
use Rattle.wit_resolved_scopes.proofs.Among.{function_alone, no_function}
use Rattle.wit_worlds.specs.Worlds.{Entry, function_member}
use Rattle.wit_worlds.specs.Paths.{PathsTree}
use Rattle.wit_worlds.specs.Listing.{MakesInclude, MakesListed, makes_function, makes_interface, makes_item, AddsMember, adds_type, adds_function, adds_import, adds_export, adds_include, IsThere, IsListable, IsExternMade, IsEntryMade, AreListsMade}
use Rattle.wit_worlds.proofs.Flat.{within, kept, paired, advanced, each_kept, each_pushed}

-- the functions that a member of a world gives
abbrev pub own_functions : WorldMemberTree → List MemberTree
own_functions x = functions_among (own_member x)

pub functions_are : (ms : List WorldMemberTree) → functions_among (own_members ms) ≡ flat_map own_functions ms
functions_are [] = refl
functions_are (m ∷ ms) = flat_map-append member_function (own_member m) (own_members ms) ∙ ap (λ (fs : List MemberTree). own_functions m ++ fs) (functions_are ms)

-- a label's world makes no difference to how many there are
text_length : (v w : Name) (m : WorldMemberTree) → length (member_texts v m) ≡ length (member_texts w m)
text_length v w (scope.member m) = refl
text_length v w (scope.listed l) = by l.kind
  where
    by : (k : ExternKind) → length (extern_texts v l k) ≡ length (extern_texts w l k)
    by (scope.ExternKind.function f) = refl
    by (scope.ExternKind.interface ms) = refl
    by (scope.item t) = refl
text_length v w (scope.included i) = refl

pub texts_length : (v w : Name) (ms : List WorldMemberTree) → length (flat_map (member_texts v) ms) ≡ length (flat_map (member_texts w) ms)
texts_length v w [] = refl
texts_length v w (m ∷ ms) =
    length-append (member_texts v m) (flat_map (member_texts v) ms)
    ∙ ap (λ (n : ℕ). n + length (flat_map (member_texts v) ms)) (text_length v w m)
    ∙ ap (λ (n : ℕ). length (member_texts w m) + n) (texts_length v w ms)
    ∙ sym (length-append (member_texts w m) (flat_map (member_texts w) ms))

-- ---- what members give

type_gives : (m : MemberTree) → IsOfType m.kind → own_functions (scope.member m) ≡ []
type_gives m of = ap (λ (ms : List MemberTree). ms ++ []) (no_function m.kind m of)

function_gives : (m : MemberTree) → IsFunction m.kind → own_functions (scope.member m) ≡ m ∷ []
function_gives m of = ap (λ (ms : List MemberTree). ms ++ []) (function_alone m.kind m of)

type_aside : (s : Side) (m : MemberTree) → IsOfType m.kind → side_member s (scope.member m) ≡ []
type_aside s m of = ap (flat_map (λ f. at_side s Import (scope.member f))) (no_function m.kind m of)

function_imported : (m : MemberTree) → IsFunction m.kind → side_member Import (scope.member m) ≡ scope.member m ∷ []
function_imported m of = ap (flat_map (λ f. at_side Import Import (scope.member f))) (function_alone m.kind m of)

function_exported : (m : MemberTree) → IsFunction m.kind → side_member Export (scope.member m) ≡ []
function_exported m of = ap (flat_map (λ f. at_side Export Import (scope.member f))) (function_alone m.kind m of)

listed_on : (s t : Side) (l : ListedTree) → l.side ≡ t → side_member s (scope.listed l) ≡ at_side s t (scope.listed l)
listed_on s t l is = ap (λ (u : Side). at_side s u (scope.listed l)) is

-- ---- as far as they are listed

module _ (ps : PathsTree) (ms : List WorldMemberTree) (fs : List Function) (ids : List ℕ) (first : List Entry) where
  abbrev pub Made : Name → WorldMemberTree → Entry → Type 0
  Made w = IsEntryMade ps w (flat_map own_functions ms) fs (flat_map (member_texts w) ms) ids

  pub record SoFar (n : ℕ) (left : List Function) (labels : List ℕ) (imports exports : List Entry) (includes : List WorldInclude) : Type 0 where
    pub functions : left ≡ drop (length (flat_map own_functions (take n ms))) fs
    pub labelled : (w : Name) → labels ≡ drop (length (flat_map (member_texts w) (take n ms))) ids
    pub others : List Entry
    pub behind : imports ≡ first ++ others
    pub imports_are : (w : Name) → Each (Made w) (side_members Import (take n ms)) others
    pub exports_are : (w : Name) → Each (Made w) (side_members Export (take n ms)) exports
    pub includes_are : Each (MakesInclude ps) (includes_of (take n ms)) includes

  pub none_so_far : SoFar 0 fs ids first [] []
  none_so_far = record { functions = refl; labelled = λ w. refl; others = []; behind = sym (append-nil first); imports_are = λ w. tt; exports_are = λ w. tt; includes_are = tt }

  module _ (n : ℕ) (x : WorldMemberTree) (there : slice_get ms n ≡ Some x) (left : List Function) (labels : List ℕ) (imports exports : List Entry) (includes : List WorldInclude) (so_far : SoFar n left labels imports exports includes) where
    -- what the member takes is left
    pub listable : length fs ≡ length (flat_map own_functions ms) → length ids ≡ length (flat_map (member_texts []) ms) → IsThere ps x → IsListable ps left labels x
    listable functions texts is =
        let in_functions = within own_functions ms n x there in
        let in_texts = within (member_texts []) ms n x there in
        let so_many : length left ≡ length fs - length (flat_map own_functions (take n ms)) = ap length so_far.functions ∙ length-drop (length (flat_map own_functions (take n ms))) fs in
        let so_many_ids : length labels ≡ length ids - length (flat_map (member_texts []) (take n ms)) = ap length (so_far.labelled []) ∙ length-drop (length (flat_map (member_texts []) (take n ms))) ids in
        record { there = is; functions = omega (arith, in_functions, so_many, functions); labelled = omega (arith, in_texts, so_many_ids, texts) }

    -- a member of which nothing is taken and that stands on no side
    aside : own_functions x ≡ [] → ((w : Name) → member_texts w x ≡ []) → side_member Import x ≡ [] → side_member Export x ≡ [] → included_in x ≡ [] → SoFar (n + 1) left labels imports exports includes
    aside no_functions no_texts no_import no_export no_include = record {
      functions = kept own_functions ms n x there fs left so_far.functions no_functions;
      labelled = λ w. kept (member_texts w) ms n x there ids labels (so_far.labelled w) (no_texts w);
      others = so_far.others;
      behind = so_far.behind;
      imports_are = λ w. each_kept (side_member Import) ms n x there (Made w) so_far.others (so_far.imports_are w) no_import;
      exports_are = λ w. each_kept (side_member Export) ms n x there (Made w) exports (so_far.exports_are w) no_export;
      includes_are = each_kept included_in ms n x there (MakesInclude ps) includes so_far.includes_are no_include;
    }

    -- one that gives an entry of a side, with what is left then
    module _ (rest : List Function) (labels2 : List ℕ) (e : Entry) (functions : rest ≡ drop (length (flat_map own_functions (take (n + 1) ms))) fs) (labelled : (w : Name) → labels2 ≡ drop (length (flat_map (member_texts w) (take (n + 1) ms))) ids)
        (made : (w : Name) → Made w x e) (no_include : included_in x ≡ [])
      where
        imported : side_member Import x ≡ x ∷ [] → side_member Export x ≡ [] → SoFar (n + 1) rest labels2 (imports ++ e ∷ []) exports includes
        imported on_import no_export = record {
          functions = functions;
          labelled = labelled;
          others = so_far.others ++ e ∷ [];
          behind = ap (λ (es : List Entry). es ++ e ∷ []) so_far.behind ∙ append_assoc first so_far.others (e ∷ []);
          imports_are = λ w. each_pushed (side_member Import) ms n x there (Made w) so_far.others (so_far.imports_are w) x e on_import (made w);
          exports_are = λ w. each_kept (side_member Export) ms n x there (Made w) exports (so_far.exports_are w) no_export;
          includes_are = each_kept included_in ms n x there (MakesInclude ps) includes so_far.includes_are no_include;
        }

        exported : side_member Import x ≡ [] → side_member Export x ≡ x ∷ [] → SoFar (n + 1) rest labels2 imports (exports ++ e ∷ []) includes
        exported no_import on_export = record {
          functions = functions;
          labelled = labelled;
          others = so_far.others;
          behind = so_far.behind;
          imports_are = λ w. each_kept (side_member Import) ms n x there (Made w) so_far.others (so_far.imports_are w) no_import;
          exports_are = λ w. each_pushed (side_member Export) ms n x there (Made w) exports (so_far.exports_are w) x e on_export (made w);
          includes_are = each_kept included_in ms n x there (MakesInclude ps) includes so_far.includes_are no_include;
        }

  -- what an import or export takes, and what is made of it
  record ListedAt (n : ℕ) (l : ListedTree) (rest : List Function) (labels : List ℕ) (e : Entry) : Type 0 where
    functions : rest ≡ drop (length (flat_map own_functions (take (n + 1) ms))) fs
    labelled : (w : Name) → labels ≡ drop (length (flat_map (member_texts w) (take (n + 1) ms))) ids
    made : (w : Name) → Made w (scope.listed l) e

  module _ (n : ℕ) (l : ListedTree) (there : slice_get ms n ≡ Some (scope.listed l)) (left : List Function) (labels : List ℕ) (imports exports : List Entry) (includes : List WorldInclude) (so_far : SoFar n left labels imports exports includes) where
    listed_at : (k : ExternKind) → l.kind ≡ k → (rest : List Function) (labels2 : List ℕ) (e : Entry) → MakesListed ps l k left labels e rest labels2 → ListedAt n l rest labels2 e
    listed_at k is rest labels2 e m = by k left labels rest labels2 m is refl refl
      where
        gives : (k : ExternKind) → l.kind ≡ k → own_functions (scope.listed l) ≡ functions_among (listed_member l k)
        gives k is = ap (λ (z : ExternKind). functions_among (listed_member l z)) is

        texts : (w : Name) (k : ExternKind) → l.kind ≡ k → member_texts w (scope.listed l) ≡ extern_texts w l k
        texts w k is = ap (extern_texts w l) is

        made_as : (w : Name) (k : ExternKind) → l.kind ≡ k → IsExternMade ps w (flat_map own_functions ms) fs (flat_map (member_texts w) ms) ids l k e → Made w (scope.listed l) e
        made_as w k is m = subst (λ (z : ExternKind). IsExternMade ps w (flat_map own_functions ms) fs (flat_map (member_texts w) ms) ids l z e) (sym is) m

        by : (k : ExternKind) (was : List Function) (were : List ℕ) (rest : List Function) (others : List ℕ) → MakesListed ps l k was were e rest others → l.kind ≡ k → left ≡ was → labels ≡ were → ListedAt n l rest others e
        by k was were rest others (makes_function t f fs2 ids2 e2 made) is lefts labs = record {
          functions = advanced own_functions ms n (scope.listed l) there fs left so_far.functions (function_member l t) (gives (scope.ExternKind.function t) is) f fs2 lefts;
          labelled = λ w. sym labs ∙ kept (member_texts w) ms n (scope.listed l) there ids labels (so_far.labelled w) (texts w (scope.ExternKind.function t) is);
          made = λ w. made_as w (scope.ExternKind.function t) is (f, paired own_functions ms n (scope.listed l) there fs left so_far.functions (function_member l t) (gives (scope.ExternKind.function t) is) f fs2 lefts, made);
        }
        by k was were rest others (makes_interface ns fs2 id ids2 e2 made) is lefts labs = record {
          functions = sym lefts ∙ kept own_functions ms n (scope.listed l) there fs left so_far.functions (gives (scope.ExternKind.interface ns) is);
          labelled = λ w. advanced (member_texts w) ms n (scope.listed l) there ids labels (so_far.labelled w) (listed_text w l ns) (texts w (scope.ExternKind.interface ns) is) id ids2 labs;
          made = λ w. made_as w (scope.ExternKind.interface ns) is (id, paired (member_texts w) ms n (scope.listed l) there ids labels (so_far.labelled w) (listed_text w l ns) (texts w (scope.ExternKind.interface ns) is) id ids2 labs, made);
        }
        by k was were rest others (makes_item t fs2 id ids2 e2 leads made) is lefts labs = record {
          functions = sym lefts ∙ kept own_functions ms n (scope.listed l) there fs left so_far.functions (gives (scope.item t) is);
          labelled = λ w. sym labs ∙ kept (member_texts w) ms n (scope.listed l) there ids labels (so_far.labelled w) (texts w (scope.item t) is);
          made = λ w. made_as w (scope.item t) is (id, leads, made);
        }

  -- one member more
  pub next_so_far : (n : ℕ) (x : WorldMemberTree) (left : List Function) (labels : List ℕ) (imports exports : List Entry) (includes : List WorldInclude) (left2 : List Function) (labels2 : List ℕ) (imports2 exports2 : List Entry) (includes2 : List WorldInclude)
      → slice_get ms n ≡ Some x → SoFar n left labels imports exports includes → AddsMember ps left labels imports exports includes x left2 labels2 imports2 exports2 includes2 → SoFar (n + 1) left2 labels2 imports2 exports2 includes2
  next_so_far n x left labels imports exports includes left2 labels2 imports2 exports2 includes2 there so_far (adds_type m of) =
      aside n (scope.member m) there left labels imports exports includes so_far (type_gives m of) (λ w. refl) (type_aside Import m of) (type_aside Export m of) refl
  next_so_far n x left labels imports exports includes left2 labels2 imports2 exports2 includes2 there so_far (adds_function m f rest e of takes made) =
      let pair = paired own_functions ms n (scope.member m) there fs left so_far.functions m (function_gives m of) f rest takes in
      imported n (scope.member m) there left labels imports exports includes so_far rest labels e
      (advanced own_functions ms n (scope.member m) there fs left so_far.functions m (function_gives m of) f rest takes)
      (λ w. kept (member_texts w) ms n (scope.member m) there ids labels (so_far.labelled w) refl) (λ w. (f, pair, made)) refl (function_imported m of) (function_exported m of)
  next_so_far n x left labels imports exports includes left2 labels2 imports2 exports2 includes2 there so_far (adds_import l rest others e side makes) =
      let at = listed_at n l there left labels imports exports includes so_far l.kind refl rest others e makes in
      imported n (scope.listed l) there left labels imports exports includes so_far rest others e at.functions at.labelled at.made refl (listed_on Import Import l side) (listed_on Export Import l side)
  next_so_far n x left labels imports exports includes left2 labels2 imports2 exports2 includes2 there so_far (adds_export l rest others e side makes) =
      let at = listed_at n l there left labels imports exports includes so_far l.kind refl rest others e makes in
      exported n (scope.listed l) there left labels imports exports includes so_far rest others e at.functions at.labelled at.made refl (listed_on Import Export l side) (listed_on Export Export l side)
  next_so_far n x left labels imports exports includes left2 labels2 imports2 exports2 includes2 there so_far (adds_include i d makes) = record {
    functions = kept own_functions ms n (scope.included i) there fs left so_far.functions refl;
    labelled = λ w. kept (member_texts w) ms n (scope.included i) there ids labels (so_far.labelled w) refl;
    others = so_far.others;
    behind = so_far.behind;
    imports_are = λ w. each_kept (side_member Import) ms n (scope.included i) there (Made w) so_far.others (so_far.imports_are w) refl;
    exports_are = λ w. each_kept (side_member Export) ms n (scope.included i) there (Made w) exports (so_far.exports_are w) refl;
    includes_are = each_pushed included_in ms n (scope.included i) there (MakesInclude ps) includes so_far.includes_are i d refl makes;
  }

  pub all_listed : (n : ℕ) → n ≡ length ms → (left : List Function) (labels : List ℕ) (imports exports : List Entry) (includes : List WorldInclude) → SoFar n left labels imports exports includes
      → (w : Name) → (others : List Entry) × (imports ≡ first ++ others) × AreListsMade ps w ms fs ids others exports includes
  all_listed n end left labels imports exports includes so_far w =
      let all : take n ms ≡ ms = ap (λ (m : ℕ). take m ms) end ∙ take-length ms in
      let functions : flat_map own_functions ms ≡ functions_among (own_members ms) = sym (functions_are ms) in
      let whole : (s : Side) (es : List Entry) → Each (Made w) (side_members s (take n ms)) es → Each (IsEntryMade ps w (functions_among (own_members ms)) fs (flat_map (member_texts w) ms) ids) (side_members s ms) es =
      λ s es each.
      subst (λ (gs : List MemberTree). Each (IsEntryMade ps w gs fs (flat_map (member_texts w) ms) ids) (side_members s ms) es) functions (subst (λ (xs : List WorldMemberTree). Each (Made w) (side_members s xs) es) all each) in (
        so_far.others,
        so_far.behind,
        record {
          imports_are = whole Import so_far.others (so_far.imports_are w);
          exports_are = whole Export exports (so_far.exports_are w);
          includes_are = subst (λ (xs : List WorldMemberTree). Each (MakesInclude ps) (includes_of xs) includes) all so_far.includes_are;
        },
      )
