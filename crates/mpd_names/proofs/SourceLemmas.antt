-- A line of a text, behind so many others.
use Rattle.std.proofs.Common.{◌≡◌, ℕ, zero, suc, ◌-◌, ◌<◌, ◌≤◌, List, [], ◌∷◌, map, Option, Some, None, slice_get, sym, ap, ◌∙◌, arith}
use Rattle.mpd_model.specs.texts.Lines.{raw_lines, lines_of, bare}

-- ---- walking

at_lines : (n : ℕ) (rest raw behind : List ℕ) → raw_lines rest ≡ raw ∷ raw_lines behind → slice_get (lines_of rest) n ≡ slice_get (bare raw ∷ lines_of behind) n
at_lines n rest raw behind cut = ap (λ ls. slice_get (map bare ls) n) cut

pub line_on : (left : ℕ) (rest raw behind : List ℕ) (total : Option (List ℕ)) → raw_lines rest ≡ raw ∷ raw_lines behind → 0 < left → slice_get (lines_of rest) left ≡ total → slice_get (lines_of behind) (left - 1) ≡ total
line_on zero rest raw behind total cut some e = absurd (omega (arith, some))
line_on (suc n) rest raw behind total cut some e =
    let k : suc n - 1 ≡ n = omega arith in
    ap (slice_get (lines_of behind)) k ∙ sym (at_lines (suc n) rest raw behind cut) ∙ e

pub line_here : (left : ℕ) (rest raw behind text : List ℕ) (total : Option (List ℕ)) → raw_lines rest ≡ raw ∷ raw_lines behind → text ≡ bare raw → left ≤ 0 → slice_get (lines_of rest) left ≡ total → total ≡ Some text
line_here zero rest raw behind text total cut is none e = sym e ∙ at_lines 0 rest raw behind cut ∙ ap Some (sym is)
line_here (suc n) rest raw behind text total cut is none e = absurd (omega (arith, none))

pub no_lines : (left : ℕ) (rest : List ℕ) (total : Option (List ℕ)) → raw_lines rest ≡ [] → slice_get (lines_of rest) left ≡ total → total ≡ None
no_lines left rest total cut e = sym e ∙ ap (λ ls. slice_get (map bare ls) left) cut

pub ruleset passing = (line_on, line_here, no_lines)
