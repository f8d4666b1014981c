-- What the values of the code stand for.
use Rattle.std.specs.Prelude.{ℕ, List, map}
use Rattle.std.specs.Borrow.{Bor}
use Rattle.wit_words.specs.Sources.{SourceText}
use Rattle.wit_syntax.specs.Ast.{FileTree}
use Rattle.wit_syntax.specs.declared.ast.File.{File}
use Rattle.wit_syntax.specs.AstView as view

-- a path, and what stands there
abbrev pub text : Bor (List ℕ) × Bor (List ℕ) → SourceText
text t = record { path = t.0.now; contents = t.1.now }

abbrev pub texts : List (Bor (List ℕ) × Bor (List ℕ)) → List SourceText
texts ts = map text ts

abbrev pub trees : List File → List FileTree
trees fs = map view.file fs
