-- Texts that are pushed have no cause to be refused.
use Rattle.std.proofs.Common.{◌≡◌, ℕ, ◌+◌, ◌^◌, ◌<◌, ◌≤◌, zero, suc, List, [], ◌∷◌, ◌++◌, inl, inr, refl, sym, ap, subst, ◌∙◌, arith, length, take, map}
use Rattle.std.specs.List.{AllZip}
use Rattle.wit_words.specs.Sources.{SourceText, total}
use Rattle.wit_order.specs.Order.{Has}
use Rattle.wit_types.specs.declared.«package».UnresolvedPackage.{UnresolvedPackage}
use Rattle.wit_push_causes.specs.Passed.wit_package-declared-group-UnresolvedPackageGroup.{UnresolvedPackageGroup}
use Rattle.wit_push_causes.specs.Passed.wit_package-Group.{AreParsed}
use Rattle.wit_offsets.specs.Offsets.{package_at}
use Rattle.wit_push_causes.specs.Asked.{AsksForOne}
use Rattle.wit_push_causes.specs.Causes.{AskForOne}
use Rattle.wit_push_causes.proofs.Asking.{moved_for_one}
use Rattle.wit_push_causes.proofs.Resolving.{parsed_for_one}
use Rattle.wit_resolution.specs.Texts.{IsGroupOf}
use Rattle.wit_resolution.specs.Groups.{packages_of, packages_behind, AllFit}
use Rattle.text_causes.specs.Causes.{IsTextsCause, PushedTextsHaveNoCause}
use Rattle.text_causes.proofs.Pushing.{groups_pushed}
use Rattle.text_causes.proofs.Reading.{none_unread}

-- ---- what the packages of texts ask for

has_either : {X : Type 0} (P : X → Type 0) (xs ys : List X) → ((x : X) → Has xs x → P x) → ((x : X) → Has ys x → P x) → (x : X) → Has (xs ++ ys) x → P x
has_either P [] ys front back x has = back x has
has_either P (y ∷ xs) ys front back x (inl here) = front x (inl here)
has_either P (y ∷ xs) ys front back x (inr later) = has_either P xs ys (λ z h. front z (inr h)) back x later

moved_ask : (n : ℕ) (ps : List UnresolvedPackage) → AskForOne ps → AskForOne (map (package_at n) ps)
moved_ask n [] one p has = absurd has
moved_ask n (q ∷ ps) one p (inl here) = subst AsksForOne (sym here) (moved_for_one q n (one q (inl refl)))
moved_ask n (q ∷ ps) one p (inr later) = moved_ask n ps (λ x h. one x (inr h)) p later

groups_ask : (texts : List SourceText) (files : List (List SourceText)) (gs : List UnresolvedPackageGroup) → AllZip IsGroupOf files gs → AskForOne (packages_behind texts gs)
groups_ask texts [] [] zip p has = absurd has
groups_ask texts [] (g ∷ gs) zip p has = absurd zip
groups_ask texts (f ∷ files) [] zip p has = absurd has
groups_ask texts (f ∷ files) (g ∷ gs) zip p has =
    has_either AsksForOne (map (package_at (total texts)) (packages_of g)) (packages_behind (texts ++ g.source_map) gs)
    (moved_ask (total texts) (packages_of g) (parsed_for_one f g.main g.nested.items zip.0.parsed))
    (groups_ask (texts ++ g.source_map) files gs zip.1) p has

-- ---- how many bytes texts have

total_append : (xs ys : List SourceText) → total (xs ++ ys) ≡ total xs + total ys
total_append [] ys = omega arith
total_append (x ∷ xs) ys = ap (λ (n : ℕ). length x.contents + n) (total_append xs ys) ∙ omega arith

total_first : (k : ℕ) (xs : List SourceText) → total (take k xs) ≤ total xs
total_first zero xs = omega arith
total_first (suc k) [] = omega arith
total_first (suc k) (x ∷ xs) = (let rest : total (take k xs) ≤ total xs = total_first k xs in omega arith)

each_fits : (was : List SourceText) (files : List (List SourceText)) (gs : List UnresolvedPackageGroup) → AllZip IsGroupOf files gs → AllFit was gs → (texts : List SourceText) → Has files texts → total was + total texts < 2 ^ 32
each_fits was [] gs zip fit texts has = absurd has
each_fits was (f ∷ files) [] zip fit texts has = absurd zip
each_fits was (f ∷ files) (g ∷ gs) zip fit texts (inl here) = subst (λ (ts : List SourceText). total was + total ts < 2 ^ 32) (zip.0.texts ∙ sym here) fit.0.bytes
each_fits was (f ∷ files) (g ∷ gs) zip fit texts (inr later) =
    let more : total (was ++ g.source_map) ≡ total was + total g.source_map = total_append was g.source_map in
    let behind : total (was ++ g.source_map) + total texts < 2 ^ 32 = each_fits (was ++ g.source_map) files gs zip.1 fit.1 texts later in
    omega (arith, more, behind)

too_few : (was texts read : List SourceText) (k : ℕ) → read ≡ take k texts → total was + total texts < 2 ^ 32 → 2 ^ 32 ≤ total was + total read → ⊥
too_few was texts read k is small large =
    let first : total (take k texts) ≤ total texts = total_first k texts in
    let same : total read ≡ total (take k texts) = ap total is in
    omega (arith, first, same, small, large)

-- ---- the group of texts

of_them : (files : List (List SourceText)) (gs : List UnresolvedPackageGroup) → AllZip IsGroupOf files gs → (texts : List SourceText) → Has files texts → (g : UnresolvedPackageGroup) × AreParsed texts g.main g.nested.items
of_them [] gs zip texts has = absurd has
of_them (f ∷ files) [] zip texts has = absurd zip
of_them (f ∷ files) (g ∷ gs) zip texts (inl here) = (g, subst (λ (ts : List SourceText). AreParsed ts g.main g.nested.items) (sym here) zip.0.parsed)
of_them (f ∷ files) (g ∷ gs) zip texts (inr later) = of_them files gs zip.1 texts later

pub texts_pushed : PushedTextsHaveNoCause
texts_pushed eq old files new id kind h (IsTextsCause.no_memory is) = is
texts_pushed eq old files new id kind h (IsTextsCause.too_large texts read has first large is) =
    absurd (too_few old.texts texts read first.0 first.1 (each_fits old.texts files h.groups h.are_groups h.pushed.fit texts has) large)
texts_pushed eq old files new id kind h (IsTextsCause.unread texts fault has cause of_texts) =
    let g = of_them files h.groups h.are_groups texts has in
    none_unread texts g.0.main g.0.nested.items (total old.texts) fault kind g.1 cause of_texts
texts_pushed eq old files new id kind h (IsTextsCause.refused error) =
    groups_pushed eq old h.groups new id kind (groups_ask old.texts files h.groups h.are_groups) h.pushed error
