-- A script as contracts see it.
use Rattle.std.specs.Prelude.{◌≡◌, ℕ, ◌≤◌, List, length, refl}
use Rattle.std.specs.Coded.{Coded, code_by, coded×, coded_ℕ, coded_list}
use Rattle.mpd_model.specs.declared.limits.TheConstants.{LANGUAGE_MAX, RANKS_MAX, CELLS_MAX, HANDLES_MAX, STATEMENTS_MAX}
use Rattle.mpd_model.specs.script.Declaration.{Declared, declared_code, variables_in, handles_in}
use Rattle.mpd_model.specs.declared.stmt.Simple.{Simple}
use Rattle.mpd_model.specs.declared.stmt.Simple.TheVariants as st
use Rattle.mpd_model.specs.script.Tree.{Tree, Block, simple, branch, repeat, no_more, then_more, block_of, statements_in}
use Rattle.mpd_model.specs.script.TreeCode.{coded_tree}

pub record Program : Type 0 where
  pub version : ℕ
  pub ranks : ℕ
  pub decls : List Declared
  pub body : List Tree
  -- the line of each statement, in text order
  pub lines : List ℕ

abbrev pub program_code : Coded Program
program_code =
    code_by (ℕ × (ℕ × (List Declared × (List Tree × List ℕ)))) (coded× coded_ℕ (coded× coded_ℕ (coded× (coded_list declared_code) (coded× (coded_list coded_tree) (coded_list coded_ℕ)))))
    (λ p. (p.version, (p.ranks, (p.decls, (p.body, p.lines))))) (λ q. record { version = q.0; ranks = q.1.0; decls = q.1.1.0; body = q.1.1.1.0; lines = q.1.1.1.1 }) (λ _. refl)

-- the version that a statement came with
abbrev pub first_version : Simple → ℕ
first_version (st.Waitany s) = 2
first_version s = 1

-- a statement of a script in this version
abbrev mutual
  pub IsTreeOf : ℕ → Tree → Type 0
  IsTreeOf version (simple s) = first_version s ≤ version
  IsTreeOf version (branch c a b) = IsBlockOf version a × IsBlockOf version b
  IsTreeOf version (repeat c a) = IsBlockOf version a

  pub IsBlockOf : ℕ → Block → Type 0
  IsBlockOf version no_more = Unit {0}
  IsBlockOf version (then_more t b) = IsTreeOf version t × IsBlockOf version b

-- The limits that every script keeps.
pub record IsLegal (p : Program) : Type 0 where
  pub some_version : 1 ≤ p.version
  pub version : p.version ≤ LANGUAGE_MAX
  pub body : IsBlockOf p.version (block_of p.body)
  pub some_rank : 1 ≤ p.ranks
  pub ranks : p.ranks ≤ RANKS_MAX
  pub variables : variables_in p.decls ≤ CELLS_MAX
  pub handles : handles_in p.decls ≤ HANDLES_MAX
  pub statements : statements_in (block_of p.body) ≤ STATEMENTS_MAX
  pub lines : length p.lines ≡ statements_in (block_of p.body)
