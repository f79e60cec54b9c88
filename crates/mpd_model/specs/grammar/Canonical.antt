-- The canonical text of a script (docs/LANGUAGE.md, "Canonical text").
use Rattle.std.specs.Prelude.{ℕ, zero, suc, Bool, true, false, nat_lt, List, [], ◌∷◌, ◌++◌, Option, Some, None, slice_get, codes}
use Rattle.std.specs.List.{flat_map}
use Rattle.std.specs.Fmt.{decimal, signed_decimal}
use Rattle.mpd_model.specs.declared.expr.BinaryOp.{BinaryOp}
use Rattle.mpd_model.specs.declared.expr.BinaryOp.TheVariants.{Or, And, Equal, NotEqual, Less, AtMost, Greater, AtLeast, Add, Subtract, Multiply, Divide, Remainder}
use Rattle.mpd_model.specs.declared.expr.UnaryOp.{UnaryOp}
use Rattle.mpd_model.specs.declared.expr.UnaryOp.TheVariants.{Negate, Not}
use Rattle.mpd_model.specs.declared.place.DeclKind.{DeclKind}
use Rattle.mpd_model.specs.declared.place.DeclKind.TheVariants.{Variable, Handle}
use Rattle.mpd_model.specs.declared.place.Place.{Place}
use Rattle.mpd_model.specs.declared.token.Symbol.{Symbol}
use Rattle.mpd_model.specs.declared.token.Symbol.TheVariants as m
use Rattle.mpd_model.specs.script.Declaration.{Declared}
use Rattle.mpd_model.specs.script.Parts.{Part, of_symbol, of_term, of_target, of_name, parts_of}
use Rattle.mpd_model.specs.script.Program.{Program}
use Rattle.mpd_model.specs.script.Term.{Term, lit, own_rank, size, cell, element, op1, op2, Target}
use Rattle.mpd_model.specs.script.Tree.{Tree, Block, simple, branch, repeat, no_more, then_more, block_of}
use Rattle.mpd_model.specs.grammar.Written.{left_level}

-- ---- names

abbrev pub name_of : Option Declared → List ℕ
name_of None = []
name_of (Some d) = d.name

-- the name that a place was declared with
abbrev pub name_text : List Declared → Place → List ℕ
name_text ds p = name_of (slice_get ds p.declaration)

-- ---- expressions

-- the level just below that of an operator: 5 is the level of `||`, 1 that of the products
abbrev pub below : BinaryOp → ℕ
below Or = 4
below And = 3
below Equal = 2
below NotEqual = 2
below Less = 2
below AtMost = 2
below Greater = 2
below AtLeast = 2
below Add = 1
below Subtract = 1
below Multiply = 0
below Divide = 0
below Remainder = 0

-- an operator with the spaces around it
abbrev pub op_text : BinaryOp → List ℕ
op_text Or = codes " || "
op_text And = codes " && "
op_text Equal = codes " == "
op_text NotEqual = codes " != "
op_text Less = codes " < "
op_text AtMost = codes " <= "
op_text Greater = codes " > "
op_text AtLeast = codes " >= "
op_text Add = codes " + "
op_text Subtract = codes " - "
op_text Multiply = codes " * "
op_text Divide = codes " / "
op_text Remainder = codes " % "

abbrev pub sign_text : UnaryOp → List ℕ
sign_text Negate = codes "-"
sign_text Not = codes "!"

abbrev pub in_brackets : Bool → List ℕ → List ℕ
in_brackets true text = codes "(" ++ text ++ codes ")"
in_brackets false text = text

-- An expression where the grammar reads one of the level: an operator of a looser level stands in parentheses.
abbrev pub term_text : List Declared → ℕ → Term → List ℕ
term_text ds k (lit z) = signed_decimal z
term_text ds k own_rank = codes "rank"
term_text ds k size = codes "size"
term_text ds k (cell p) = name_text ds p
term_text ds k (element p a) = name_text ds p ++ codes "[" ++ term_text ds 5 a ++ codes "]"
term_text ds k (op1 op a) = sign_text op ++ term_text ds 0 a
term_text ds k (op2 op a b) = in_brackets (nat_lt k (suc (below op))) (term_text ds (left_level (below op)) a ++ op_text op ++ term_text ds (below op) b)

-- an expression that stands in no other
abbrev pub whole_text : List Declared → Term → List ℕ
whole_text ds = term_text ds 5

-- ---- statements

abbrev pub index_text : List Declared → Option Term → List ℕ
index_text ds None = []
index_text ds (Some e) = codes "[" ++ whole_text ds e ++ codes "]"

abbrev pub target_text : List Declared → Target → List ℕ
target_text ds t = name_text ds t.place ++ index_text ds t.index

-- a sign or a reserved word
abbrev pub symbol_text : Symbol → List ℕ
symbol_text m.Semicolon = codes ";"
symbol_text m.BraceOpen = codes "{"
symbol_text m.BraceClose = codes "}"
symbol_text m.RoundOpen = codes "("
symbol_text m.RoundClose = codes ")"
symbol_text m.SquareOpen = codes "["
symbol_text m.SquareClose = codes "]"
symbol_text m.Assign = codes "="
symbol_text m.Equal = codes "=="
symbol_text m.NotEqual = codes "!="
symbol_text m.Less = codes "<"
symbol_text m.AtMost = codes "<="
symbol_text m.Greater = codes ">"
symbol_text m.AtLeast = codes ">="
symbol_text m.Plus = codes "+"
symbol_text m.Minus = codes "-"
symbol_text m.Times = codes "*"
symbol_text m.Divide = codes "/"
symbol_text m.Remainder = codes "%"
symbol_text m.Not = codes "!"
symbol_text m.And = codes "&&"
symbol_text m.Or = codes "||"
symbol_text m.Mpd = codes "mpd"
symbol_text m.Ranks = codes "ranks"
symbol_text m.Var = codes "var"
symbol_text m.Req = codes "req"
symbol_text m.If = codes "if"
symbol_text m.Else = codes "else"
symbol_text m.While = codes "while"
symbol_text m.Print = codes "print"
symbol_text m.Assert = codes "assert"
symbol_text m.Send = codes "send"
symbol_text m.Ssend = codes "ssend"
symbol_text m.Isend = codes "isend"
symbol_text m.Issend = codes "issend"
symbol_text m.Recv = codes "recv"
symbol_text m.Irecv = codes "irecv"
symbol_text m.Wait = codes "wait"
symbol_text m.Waitany = codes "waitany"
symbol_text m.Barrier = codes "barrier"
symbol_text m.To = codes "to"
symbol_text m.From = codes "from"
symbol_text m.Tag = codes "tag"
symbol_text m.Any = codes "any"
symbol_text m.Status = codes "status"
symbol_text m.Rank = codes "rank"
symbol_text m.Size = codes "size"

abbrev pub part_text : List Declared → Part → List ℕ
part_text ds (of_symbol k) = symbol_text k
part_text ds (of_term e) = whole_text ds e
part_text ds (of_target kind t) = target_text ds t
part_text ds (of_name kind p) = name_text ds p

-- the parts of a statement, with one space between them
abbrev pub parts_text : List Declared → List Part → List ℕ
parts_text ds [] = []
parts_text ds (p ∷ []) = part_text ds p
parts_text ds (p ∷ q ∷ ps) = part_text ds p ++ codes " " ++ parts_text ds (q ∷ ps)

-- two spaces for each open block
abbrev pub indent : ℕ → List ℕ
indent zero = []
indent (suc n) = codes "  " ++ indent n

-- what stands after the first block of an `if`: an empty `else` isn't printed
abbrev pub else_text : Block → ℕ → List ℕ → List ℕ
else_text no_more n inside = []
else_text (then_more t b) n inside = codes " else {\n" ++ inside ++ indent n ++ codes "}"

-- the lines of a statement inside so many open blocks
abbrev mutual
  pub tree_text : List Declared → ℕ → Tree → List ℕ
  tree_text ds n (simple s) = indent n ++ parts_text ds (parts_of s) ++ codes ";\n"
  tree_text ds n (branch c a b) =
      indent n ++ codes "if " ++ whole_text ds c ++ codes " {\n" ++ block_text ds (suc n) a ++ indent n ++ codes "}" ++ else_text b n (block_text ds (suc n) b) ++ codes "\n"
  tree_text ds n (repeat c a) = indent n ++ codes "while " ++ whole_text ds c ++ codes " {\n" ++ block_text ds (suc n) a ++ indent n ++ codes "}\n"

  pub block_text : List Declared → ℕ → Block → List ℕ
  block_text ds n no_more = []
  block_text ds n (then_more t b) = tree_text ds n t ++ block_text ds n b

-- ---- a whole script

abbrev pub kind_word : DeclKind → List ℕ
kind_word Variable = codes "var "
kind_word Handle = codes "req "

abbrev pub size_text : Option ℕ → List ℕ
size_text None = []
size_text (Some n) = codes "[" ++ decimal n ++ codes "]"

abbrev pub decl_text : Declared → List ℕ
decl_text d = kind_word d.kind ++ d.name ++ size_text d.size ++ codes ";\n"

abbrev pub canonical : Program → List ℕ
canonical p = codes "mpd " ++ decimal p.version ++ codes ";\nranks " ++ decimal p.ranks ++ codes ";\n" ++ flat_map decl_text p.decls ++ block_text p.decls 0 (block_of p.body)
