-- What holds of the grammar's parsers, whatever they are given.
use Rattle.std.specs.Prelude.{◌≡◌, ◌≢◌, ℕ, suc, ◌+◌, ◌-◌, ◌<◌, ◌≤◌, Bool, true, false, List, ◌++◌, length, Ok, Err}
use Rattle.std.specs.List.{prefix_len}
use Rattle.mpd_model.specs.grammar.Costs.{cost, Stops, at, Gives, blocks, blocks_in, dearest, dearest_block, dearest_body, dearest_script}
use Rattle.mpd_model.specs.grammar.Grammar.{expr, closes, stmt, stmts, body, block, decls_from, max_blocks, max_text, is_text, reading}
use Rattle.mpd_model.specs.declared.limits.TheConstants.{LANGUAGE_MAX}
use Rattle.mpd_model.specs.declared.read_fault.FaultCode.TheVariants.{TooDeep, Memory}
use Rattle.mpd_model.specs.declared.read_fault.ReadFault.{ReadFault}
use Rattle.mpd_model.specs.declared.token.Symbol.TheVariants.{Else}
use Rattle.mpd_model.specs.grammar.Input.{Input, Outcome, token_of, is_symbol, max_budget, max_statements}
use Rattle.mpd_model.specs.script.Program.{Program, IsTreeOf, IsBlockOf, IsLegal}
use Rattle.mpd_model.specs.script.Term.{Term}
use Rattle.mpd_model.specs.grammar.Tokens.{Spot, tokens}
use Rattle.mpd_model.specs.script.Tree.{Tree, block_of}
use Rattle.mpd_model.specs.grammar.Written.{WrittenTerm, TermBetween, BodyBetween, WrittenTree, WrittenBlock, WrittenBody, WrittenScript}

-- What is read as an expression is written so.
abbrev pub ExpressionsAreWritten : Type 0
ExpressionsAreWritten = (depth level : ℕ) (i j : Input) (t : Term) → expr depth level i ≡ Ok (t, j) → TermBetween level t i j

-- What is read as statements is written so, with the line of each.
abbrev pub StatementsAreWritten : Type 0
StatementsAreWritten = (depth : ℕ) (inside : Bool) (i j : Input) (ts : List Tree) → body (block depth) inside i ≡ Ok (ts, j) → BodyBetween ts i j

-- What is read as statements is of the version that the text is in. The first version is 1.
abbrev pub StatementsAreOfVersion : Type 0
StatementsAreOfVersion = (depth : ℕ) (inside : Bool) (i j : Input) (ts : List Tree) → 1 ≤ i.version → body (block depth) inside i ≡ Ok (ts, j) → IsBlockOf i.version (block_of ts)

-- An expression never runs out of depth: each one inside another takes one of the budget, so more depth than that changes nothing.
abbrev pub DepthIsEnough : Type 0
DepthIsEnough = (depth level : ℕ) (i : Input) → i.budget < depth → expr depth level i ≡ expr (suc depth) level i

-- not refused for its depth
abbrev pub IsNotTooDeep : {A : Type 0} → Outcome A → Type 0
IsNotTooDeep (Ok p) = Unit {0}
IsNotTooDeep (Err f) = f.code ≢ TooDeep

abbrev pub with_more : ℕ → Input → Input
with_more n i = record i { budget = i.budget + n }

abbrev pub leaving_more : {A : Type 0} → ℕ → Outcome A → Outcome A
leaving_more n (Ok p) = Ok (p.0, with_more n p.1)
leaving_more n (Err f) = Err f

-- The budget of an expression decides nothing but TooDeep: where it is enough, a larger one gives the same tree or the same fault.
abbrev pub BudgetDecidesDepthAlone : Type 0
BudgetDecidesDepthAlone = (depth level more : ℕ) (i : Input) → IsNotTooDeep (expr depth level i) → expr (depth + more) level (with_more more i) ≡ leaving_more more (expr depth level i)

-- The number of blocks that may be opened decides nothing else either.
abbrev pub BlocksDecideDepthAlone : Type 0
BlocksDecideDepthAlone = (depth more : ℕ) (inside : Bool) (i : Input) → IsNotTooDeep (body (block depth) inside i) → body (block (depth + more)) inside i ≡ body (block depth) inside i

-- What is read as a script is written so, from the first token of the text to its last.
abbrev pub ScriptsAreWritten : Type 0
ScriptsAreWritten = (text : List ℕ) (p : Program) → reading text ≡ Ok p → WrittenScript (tokens text) p

-- A script that is read is in a version that there is, and has no statement that came later.
abbrev pub ScriptsAreOfVersion : Type 0
ScriptsAreOfVersion = (text : List ℕ) (p : Program) → reading text ≡ Ok p → (1 ≤ p.version) × (p.version ≤ LANGUAGE_MAX) × IsBlockOf p.version (block_of p.body)

-- Want of memory is no fault of a text.
abbrev pub NoTextIsMemory : Type 0
NoTextIsMemory = (text : List ℕ) (f : ReadFault) → reading text ≡ Err f → f.code ≢ Memory

-- Statements and declarations never run out of turns: each turn takes a token, so more turns than there are tokens change nothing.
abbrev pub TurnsAreEnough : Type 0
TurnsAreEnough =
    ((depth : ℕ) (inside : Bool) (turns : ℕ) (found : List Tree) (i : Input) → length i.tokens < turns → stmts (block depth) inside turns found i ≡ stmts (block depth) inside (suc turns) found i)
    × ((turns : ℕ) (i : Input) → length i.tokens < turns → decls_from turns i ≡ decls_from (suc turns) i)

-- What is written as an expression is read as that, where the budget is enough for its brackets and operators and no operator goes on after it.
abbrev pub WrittenExpressionsAreRead : Type 0
WrittenExpressionsAreRead =
    (depth level : ℕ) (ss rest : List Spot) (t : Term) (i : Input) → WrittenTerm i.decls level ss t → i.tokens ≡ ss ++ rest → Stops level rest → cost ss ≤ i.budget → i.budget < depth
    → expr depth level i ≡ Ok (t, at rest (i.budget - cost ss) i)

-- What is written as a statement is read as that, where the text's version has it, each expression is within the budget, no more blocks are open at once and no more statements begin than may. No `else` follows: it would go on with an `if`.
abbrev pub WrittenTreesAreRead : Type 0
WrittenTreesAreRead =
    (depth : ℕ) (ss rest : List Spot) (t : Tree) (ls : List ℕ) (i : Input) (w : WrittenTree i.decls ss t ls) → i.tokens ≡ ss ++ rest → is_symbol Else (token_of rest) ≡ false
    → IsTreeOf i.version t → blocks t ≤ depth → dearest i.decls ss t ls w ≤ max_budget → length i.lines + length ls ≤ max_statements
    → Gives (stmt (block depth) i) t rest (i.lines ++ ls) i

-- The same of a block, whatever follows. It is open itself.
abbrev pub WrittenBlocksAreRead : Type 0
WrittenBlocksAreRead =
    (depth : ℕ) (ss rest : List Spot) (ts : List Tree) (ls : List ℕ) (i : Input) (w : WrittenBlock i.decls ss ts ls) → i.tokens ≡ ss ++ rest
    → IsBlockOf i.version (block_of ts) → blocks_in (block_of ts) < depth → dearest_block i.decls ss ts ls w ≤ max_budget → length i.lines + length ls ≤ max_statements
    → Gives (block depth i) ts rest (i.lines ++ ls) i

-- The same of statements, where what closes them follows.
abbrev pub WrittenBodiesAreRead : Type 0
WrittenBodiesAreRead =
    (depth : ℕ) (inside : Bool) (ss rest : List Spot) (ts : List Tree) (ls : List ℕ) (i : Input) (w : WrittenBody i.decls ss ts ls) → i.tokens ≡ ss ++ rest → closes inside (token_of rest) ≡ true
    → IsBlockOf i.version (block_of ts) → blocks_in (block_of ts) ≤ depth → dearest_body i.decls ss ts ls w ≤ max_budget → length i.lines + length ls ≤ max_statements
    → Gives (body (block depth) inside i) ts rest (i.lines ++ ls) i

abbrev pub WrittenStatementsAreRead : Type 0
WrittenStatementsAreRead = WrittenTreesAreRead × WrittenBlocksAreRead × WrittenBodiesAreRead

-- What is written as a script is read as that, where the text isn't too long and has no other bytes than a text may have, and the script keeps the limits.
abbrev pub WrittenScriptsAreRead : Type 0
WrittenScriptsAreRead =
    (text : List ℕ) (p : Program) (w : WrittenScript (tokens text) p) → length text ≤ max_text → prefix_len is_text text ≡ length text → IsLegal p
    → blocks_in (block_of p.body) ≤ max_blocks → dearest_script (tokens text) p w ≤ max_budget → reading text ≡ Ok p
