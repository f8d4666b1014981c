-- Interfaces and worlds of files, with one more file behind the others.
use Rattle.std.proofs.Common.{◌≡◌, ℕ, ◌+◌, ◌<◌, suc, List, [], ◌∷◌, ◌++◌, map, take, length, get_or, add-one, refl, append-nil, append_assoc, sym, ap, ◌∙◌, arith}
use Rattle.std.proofs.Math.Seq.{take-suc}
use Rattle.std.proofs.lemmas.List.{map_push, length-map, length-take-le}
use Rattle.wit_syntax.specs.Ast.{PackageNameTree, FileTree}
use Rattle.wit_words.specs.Slice.{Slice}
use Rattle.wit_syntax.specs.Ast.{ToplevelUseTree}
use Rattle.wit_syntax.specs.declared.ast.File.{File}
use Rattle.wit_syntax.specs.AstView as view
use Rattle.wit_scopes.specs.declared.scopes.PackageScopes.{PackageScopes}
use Rattle.wit_scopes.specs.Paths.{item_uses, file_uses}
use Rattle.wit_scopes.specs.Scopes.{ItemScope, items_scopes, scopes_from, package_scopes, header_docs, or_docs, package_docs}
use Rattle.wit_scopes.specs.View.{uses, item_scope, ArePackageScopes, IsEmpty}

scopes_push : (me : PackageNameTree) (k : ℕ) (fs : List FileTree) (f : FileTree) (n : ℕ) → n ≡ k + length fs → scopes_from me k (fs ++ f ∷ []) ≡ scopes_from me k fs ++ items_scopes me n f.items
scopes_push me k [] f n e = (let same : k ≡ n = omega arith in append-nil (items_scopes me k f.items) ∙ ap (λ (m : ℕ). items_scopes me m f.items) same)
scopes_push me k (g ∷ fs) f n e =
    let l : length (g ∷ fs) ≡ suc (length fs) = refl in
    let later : scopes_from me (suc k) (fs ++ f ∷ []) ≡ scopes_from me (suc k) fs ++ items_scopes me n f.items = scopes_push me (suc k) fs f n (omega arith) in
    ap (λ (ss : List ItemScope). items_scopes me k g.items ++ ss) later ∙ sym (append_assoc (items_scopes me k g.items) (scopes_from me (suc k) fs) (items_scopes me n f.items))

pub scopes_more : {X : Type 0} (me : PackageNameTree) (view : X → FileTree) (xs : List X) (i : ℕ) (x : X) → i < length xs → x ≡ get_or xs i x
    → package_scopes me (map view (take (i + 1) xs)) ≡ package_scopes me (map view (take i xs)) ++ items_scopes me i (view x).items
scopes_more me view xs i x within is =
    let n : length (map view (take i xs)) ≡ i = length-map (take i xs) view ∙ length-take-le i xs (omega arith) in
    rw (add-one, take-suc xs i x within, ← is, map_push view (take i xs) x) (scopes_push me 0 (map view (take i xs)) (view x) i (omega arith))

or_nothing : (ds : List Slice) → or_docs ds [] ≡ ds
or_nothing [] = refl
or_nothing (d ∷ ds) = refl

or_or : (a b c : List Slice) → or_docs a (or_docs b c) ≡ or_docs (or_docs a b) c
or_or [] b c = refl
or_or (x ∷ xs) b c = refl

docs_push : (fs : List FileTree) (f : FileTree) → package_docs (fs ++ f ∷ []) ≡ or_docs (package_docs fs) (header_docs f.header)
docs_push [] f = or_nothing (header_docs f.header)
docs_push (g ∷ fs) f = ap (or_docs (header_docs g.header)) (docs_push fs f) ∙ or_or (header_docs g.header) (package_docs fs) (header_docs f.header)

-- what files declare, with one more file behind the others
pub package_more : (me : PackageNameTree) (xs : List File) (i : ℕ) (x : File) → i < length xs → x ≡ get_or xs i x → (a b : PackageScopes) → ArePackageScopes me (map view.file (take i xs)) a
    → view.docs b.docs ≡ or_docs (view.docs a.docs) (header_docs (view.file x).header) → uses b.uses.items ≡ uses a.uses.items ++ item_uses (view.file x).items ∷ []
    → map item_scope b.items.items ≡ map item_scope a.items.items ++ items_scopes me i (view.file x).items → ArePackageScopes me (map view.file (take (i + 1) xs)) b
package_more me xs i x within is a b so_far docs tops items =
    let before : List FileTree = map view.file (take i xs) in
    let more : map view.file (take (i + 1) xs) ≡ before ++ view.file x ∷ [] = rw (add-one, take-suc xs i x within, ← is, map_push view.file (take i xs) x) refl in
    record {
      docs_are = docs ∙ ap (λ (ds : List Slice). or_docs ds (header_docs (view.file x).header)) so_far.docs_are ∙ sym (docs_push before (view.file x)) ∙ ap package_docs (sym more);
      uses_are = tops ∙ ap (λ (us : List (List ToplevelUseTree)). us ++ item_uses (view.file x).items ∷ []) so_far.uses_are ∙ sym (map_push (λ (f : FileTree). item_uses f.items) before (view.file x)) ∙ ap file_uses (sym more);
      items_are = items ∙ ap (λ (ss : List ItemScope). ss ++ items_scopes me i (view.file x).items) so_far.items_are ∙ sym (scopes_more me view.file xs i x within is);
    }

-- no file declares nothing
pub nothing_yet : (me : PackageNameTree) (p : PackageScopes) → IsEmpty p → ArePackageScopes me [] p
nothing_yet me p none = record { docs_are = none.no_docs; uses_are = ap uses none.no_uses; items_are = ap (λ is. map item_scope is) none.no_items }
