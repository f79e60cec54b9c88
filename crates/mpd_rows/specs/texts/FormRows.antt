-- Worked rows of forms and their holes, by computing.
use Rattle.std.specs.Prelude.{◌≡◌, ℕ, pos, List, [], ◌∷◌, Option, Some, None, Result, Ok, Err, codes, map, refl}
use Rattle.std.specs.Fmt.{digits}
use Rattle.mpd_model.specs.declared.place.DeclKind.TheVariants.{Variable}
use Rattle.mpd_model.specs.declared.place.Place.{Place}
use Rattle.mpd_model.specs.declared.read_fault.FaultCode.TheVariants as f
use Rattle.mpd_model.specs.declared.read_fault.ReadFault.{ReadFault}
use Rattle.mpd_model.specs.declared.token.Symbol.TheVariants as m
use Rattle.mpd_model.specs.grammar.Canonical.{symbol_text, parts_text}
use Rattle.mpd_model.specs.script.Declaration.{Declared}
use Rattle.mpd_model.specs.grammar.Faults.{fault}
use Rattle.mpd_model.specs.grammar.Grammar.{chain, bracket, place_inside, rounds, unary, atom, level, expr, target, statement_place, statement_name, source, status, fill, form_of}
use Rattle.mpd_model.specs.grammar.Input.{Outcome, start_of, token, spelling, place, advanced, refusal, same_symbol, sees, after, expect, spend, slot_in, seek}
use Rattle.mpd_model.specs.script.Parts.{Hole, symbol_hole, term_hole, target_hole, name_hole, source_hole, status_hole, Contents, filled}
use Rattle.mpd_model.specs.script.Term.{lit, cell, Target}
use Rattle.mpd_model.specs.grammar.Tokens.{reserved, tokens_after, front, sign, word, number}

-- x is a variable, a an array of ten cells after it
abbrev declared_here : List Declared
declared_here = record { kind = Variable; name = codes "x"; size = None } ∷ record { kind = Variable; name = codes "a"; size = Some 10 } ∷ []

abbrev at_x : Place
at_x = record { declaration = 0; first = 0; cells = 1 }

abbrev into_x : Target
into_x = record { place = at_x; index = None }

abbrev at_a : Place
at_a = record { declaration = 1; first = 1; cells = 10 }

abbrev into_a : ℕ → Target
into_a k = record { place = at_a; index = Some (lit (pos k)) }

-- ---- symbols

-- each reserved word is spelled as it is cut
pub row_words : map (λ k. symbol_text k.1) reserved ≡ map (λ k. k.0) reserved
row_words = refl

-- the words that a statement without blocks begins with
abbrev is_found : {A : Type 0} → Option A → ℕ
is_found None = 0
is_found (Some a) = 1

pub row_forms : map (λ k. is_found (form_of k.1)) reserved ≡ 0 ∷ 0 ∷ 0 ∷ 0 ∷ 0 ∷ 0 ∷ 0 ∷ 1 ∷ 1 ∷ 1 ∷ 1 ∷ 1 ∷ 1 ∷ 1 ∷ 1 ∷ 1 ∷ 1 ∷ 1 ∷ 0 ∷ 0 ∷ 0 ∷ 0 ∷ 0 ∷ 0 ∷ 0 ∷ []
row_forms = refl

-- ---- what fills holes

abbrev contents_of : {A : Type 0} → Outcome A → Result A ReadFault
contents_of (Ok p) = Ok p.0
contents_of (Err e) = Err e

abbrev filled_by : (hs : List Hole) → List ℕ → Result (Contents hs) ReadFault
filled_by hs text = contents_of (fill hs (λ c. c) (record (start_of text) { decls = declared_here }))

abbrev source_and_tag : List Hole
source_and_tag = source_hole ∷ symbol_hole m.Tag ∷ term_hole ∷ []

abbrev two_names : List Hole
two_names = name_hole Variable ∷ symbol_hole m.To ∷ name_hole Variable ∷ []

abbrev target_and_status : List Hole
target_and_status = target_hole Variable ∷ status_hole ∷ []

pub row_any : filled_by source_and_tag (codes "any tag 3;") ≡ Ok (None, (lit (pos 3), tt))
unfolding chain bracket place_inside rounds unary atom level expr target statement_place source status token spelling place advanced refusal same_symbol sees after expect spend slot_in seek tokens_after front sign word number
row_any = refl

pub row_source : filled_by source_and_tag (codes "x tag 3;") ≡ Ok (Some (cell at_x), (lit (pos 3), tt))
unfolding chain bracket place_inside rounds unary atom level expr target statement_place source status token spelling place advanced refusal same_symbol sees after expect spend slot_in seek tokens_after front sign word number
row_source = refl

pub row_no_source : filled_by source_and_tag (codes "tag 3;") ≡ Err (fault f.Expected 0)
unfolding chain bracket place_inside rounds unary atom level expr target statement_place source status token spelling place advanced refusal same_symbol sees after expect spend slot_in seek tokens_after front sign word number
row_no_source = refl

pub row_status : filled_by target_and_status (codes "x status a[1] x;") ≡ Ok (into_x, (Some (record { source = into_a 1; tag = into_x }), tt))
unfolding chain bracket place_inside rounds unary atom level expr target statement_place source status token spelling place advanced refusal same_symbol sees after expect spend slot_in seek tokens_after front sign word number
row_status = refl

pub row_no_status : filled_by target_and_status (codes "a[2];") ≡ Ok (into_a 2, (None, tt))
unfolding chain bracket place_inside rounds unary atom level expr target statement_place source status token spelling place advanced refusal same_symbol sees after expect spend slot_in seek tokens_after front sign word number
row_no_status = refl

pub row_status_of_a_number : filled_by target_and_status (codes "x status 1;") ≡ Err (fault f.Expected 9)
unfolding chain bracket place_inside rounds unary atom level expr target statement_place source status token spelling place advanced refusal same_symbol sees after expect spend slot_in seek tokens_after front sign word number
row_status_of_a_number = refl

pub row_status_of_one : filled_by target_and_status (codes "x status x;") ≡ Err (fault f.Expected 10)
unfolding chain bracket place_inside rounds unary atom level expr target statement_place source status token spelling place advanced refusal same_symbol sees after expect spend slot_in seek tokens_after front sign word number
row_status_of_one = refl

pub row_no_end : filled_by target_and_status (codes "x status x x") ≡ Err (fault f.Expected 12)
unfolding chain bracket place_inside rounds unary atom level expr target statement_place source status token spelling place advanced refusal same_symbol sees after expect spend slot_in seek tokens_after front sign word number
row_no_end = refl

-- an array is named as a variable alone is
pub row_names : filled_by two_names (codes "a to x;") ≡ Ok (at_a, (at_x, tt))
unfolding chain bracket place_inside rounds unary atom level expr target statement_place statement_name source status token spelling place advanced refusal same_symbol sees after expect spend slot_in seek tokens_after front sign word number
row_names = refl

pub row_name_with_an_index : filled_by two_names (codes "x to a[1];") ≡ Err (fault f.Expected 6)
unfolding chain bracket place_inside rounds unary atom level expr target statement_place statement_name source status token spelling place advanced refusal same_symbol sees after expect spend slot_in seek tokens_after front sign word number
row_name_with_an_index = refl

-- ---- how they are written

abbrev written_by : (hs : List Hole) → Contents hs → List ℕ
written_by hs c = parts_text declared_here (filled hs c)

pub row_any_text : written_by source_and_tag (None, (lit (pos 3), tt)) ≡ codes "any tag 3"
unfolding digits
row_any_text = refl

pub row_source_text : written_by source_and_tag (Some (cell at_x), (lit (pos 3), tt)) ≡ codes "x tag 3"
unfolding digits
row_source_text = refl

pub row_status_text : written_by target_and_status (into_x, (Some (record { source = into_a 1; tag = into_x }), tt)) ≡ codes "x status a[1] x"
unfolding digits
row_status_text = refl

pub row_names_text : written_by two_names (at_a, (at_x, tt)) ≡ codes "a to x"
row_names_text = refl

pub row_no_status_text : written_by target_and_status (into_x, (None, tt)) ≡ codes "x"
row_no_status_text = refl
