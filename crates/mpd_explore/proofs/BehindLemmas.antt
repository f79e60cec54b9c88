-- What comes after some choices, told from where these begin.
use Rattle.std.proofs.Common.{◌≡◌, ℕ, zero, suc, ◌<◌, ◌≤◌, ◌+◌, nat_lt, Bool, true, false, if◌then◌else◌, List, [], ◌∷◌, ◌++◌, length, take, drop, map, get_or, refl, sym, ap, subst, ◌∙◌, arith, append_assoc, append-nil, Option, Some, None}
use Rattle.std.specs.Option.{option_map}
use Rattle.std.specs.List.{AllByRecursion}
use Rattle.std.proofs.lemmas.List.{length-map, take-map, take_all, drop_all}
use Rattle.std.proofs.Math.ListN.{set}
use Rattle.mpd_model.specs.declared.call.Mode.{Mode}
use Rattle.mpd_model.specs.declared.step.Step.{Step}
use Rattle.mpd_model.specs.declared.decision.Decision.{Decision}
use Rattle.mpd_model.specs.script.Program.{Program}
use Rattle.mpd_model.specs.steps.World.{World}
use Rattle.mpd_model.specs.runs.Trail.{Trail, Standing, IsReached, done_steps, forgotten}
use Rattle.mpd_explore.specs.declared.report.SearchLeaf as leaf
use Rattle.mpd_explore.specs.declared.report.SearchLimits.{SearchLimits}
use Rattle.mpd_policy.specs.Walk.{Run, prefixed, run_by, steps_by}
use Rattle.mpd_explore.specs.Sleeping.{Rules, walk_with}
use Rattle.mpd_explore.specs.Report.{shown, is_bad, up_to_bad, ended_by, listed, left_out}
use Rattle.mpd_explore.specs.Witness.{WitnessBy, HasWitness, witness_by}
use Rattle.mpd_explore.specs.WitnessTexts.{behind_number, witness_text, witness_texts}
use Rattle.mpd_explore.specs.declared.report.Witnesses.{Witnesses}
use Rattle.mpd_explore.specs.declared.report.Witnesses.TheVariants.{OfNone, OfDeadlocks, OfAll}
use Rattle.mpd_explore.specs.Asked.{asked_text}
use Rattle.mpd_explore.proofs.ListedLemmas.{none_out}
use Rattle.mpd_explore.specs.Pieces.{walk_from, behind}
use Rattle.mpd_explore.specs.Along.{runs_on, Going}
use Rattle.mpd_explore.proofs.AlongLemmas.{walk_whole}

-- ---- choices in front of each of a list

-- one leaf more
front_next : (f : leaf.SearchLeaf → leaf.SearchLeaf) (old now : List leaf.SearchLeaf) (i : ℕ) (x y : leaf.SearchLeaf) → i < length old → now ≡ map f (take i old) ++ drop i old → y ≡ f (get_or now i x) → set now i y ≡ map f (take (suc i) old) ++ drop (suc i) old
front_next f [] now i x y within is h = absurd (omega (arith, within))
front_next f (o ∷ old) now zero x y within is h = ap (λ ls. set ls 0 y) is ∙ ap (λ l. l ∷ old) (h ∙ ap (λ ls. f (get_or ls 0 x)) is)
front_next f (o ∷ old) now (suc i) x y within is h =
    ap (λ ls. set ls (suc i) y) is ∙ ap (λ ls. f o ∷ ls) (front_next f old (map f (take i old) ++ drop i old) i x y (omega (arith, within)) refl (h ∙ ap (λ ls. f (get_or ls (suc i) x)) is))

pub front_more : (f : leaf.SearchLeaf → leaf.SearchLeaf) (old now : List leaf.SearchLeaf) (i n : ℕ) (x y : leaf.SearchLeaf) → i < length old → now ≡ map f (take i old) ++ drop i old → y ≡ f (get_or now i x) → n ≡ suc i → set now i y ≡ map f (take n old) ++ drop n old
front_more f old now i n x y within is h e = rw e (front_next f old now i x y within is h)

pub front_all : (f : leaf.SearchLeaf → leaf.SearchLeaf) (old now : List leaf.SearchLeaf) (i : ℕ) → now ≡ map f (take i old) ++ drop i old → length old ≤ i → now ≡ map f old
front_all f old now i is h = is ∙ ap (λ ls. map f ls ++ drop i old) (take_all i old h) ∙ ap (λ ls. map f old ++ ls) (drop_all i old h) ∙ append-nil (map f old)

-- ---- what a report has of the runs that begin with some choices

shown_behind : (cs : List ℕ) (p : List Step) (rs : List Run) → map (behind cs) (map shown rs) ≡ map shown (map (prefixed cs p) rs)
shown_behind cs p [] = refl
shown_behind cs p (r ∷ rs) = ap (λ ls. shown (prefixed cs p r) ∷ ls) (shown_behind cs p rs)

-- so much fuel is left
abbrev pub with_fuel : SearchLimits → ℕ → SearchLimits
with_fuel l n = record { runs = l.runs; fuel = n; witnesses = l.witnesses; until_bad = l.until_bad; ends = l.ends }

front_case : (cs : List ℕ) (b : Bool) (xs ys : List leaf.SearchLeaf) → ys ≡ map (behind cs) xs → ◌≡◌ {A = List leaf.SearchLeaf} (if b then [] else ys) (map (behind cs) (if b then [] else xs))
front_case cs true xs ys h = refl
front_case cs false xs ys h = h

up_behind : (cs : List ℕ) (xs : List leaf.SearchLeaf) → up_to_bad (map (behind cs) xs) ≡ map (behind cs) (up_to_bad xs)
up_behind cs [] = refl
up_behind cs (x ∷ xs) = ap (λ zs. behind cs x ∷ zs) (front_case cs (is_bad x.ending) (up_to_bad xs) (up_to_bad (map (behind cs) xs)) (up_behind cs xs))

ended_behind : (cs : List ℕ) (b : Bool) (xs : List leaf.SearchLeaf) → ended_by b (map (behind cs) xs) ≡ map (behind cs) (ended_by b xs)
ended_behind cs false xs = refl
ended_behind cs true xs = up_behind cs xs

left_same : (b : Bool) (runs x y m n : ℕ) → x ≡ y → m ≡ n → (if b then nat_lt x m else nat_lt runs m) ≡ (if b then nat_lt y n else nat_lt runs n)
left_same b runs x y m n e f = ap (λ z. if b then nat_lt z m else nat_lt runs m) e ∙ ap (λ z. if b then nat_lt y z else nat_lt runs z) f

take_none : (n : ℕ) → ◌≡◌ {A = List leaf.SearchLeaf} (take n []) []
take_none zero = refl
take_none (suc n) = refl

ended_none : (b : Bool) → ended_by b [] ≡ []
ended_none false = refl
ended_none true = refl

none_listed : (l : SearchLimits) → listed l [] ≡ []
none_listed l = ap (ended_by l.until_bad) (take_none l.runs) ∙ ended_none l.until_bad

blank_texts : (decide : World → Decision) (asked : Witnesses) (path : List Step) (n : ℕ) (w : World) → [] ≡ witness_texts decide asked path n w []
blank_texts decide OfNone path n w = refl
blank_texts decide OfDeadlocks path n w = refl
blank_texts decide OfAll path n w = refl

module _ (r : Rules) where
  -- all choices are made
  all_made : (near far : Option (List Step)) (fuel : ℕ) (choices : List ℕ) (d e : Standing) (h : Going r fuel choices near d [] far e) → h.taken ≡ choices
  all_made near far fuel choices d e h = sym (append-nil h.taken) ∙ h.joined

  walk_behind : (far : Option (List Step)) (fuel n : ℕ) (choices : List ℕ) (d e : Standing) (h : Going r fuel choices (Some []) d [] far e) → h.rest ≡ n → walk_from r fuel choices [] d.world ≡ map (prefixed choices h.beyond.path) (runs_on r n far [] e.world)
  walk_behind far fuel n choices d e h left =
      ap (λ cs. walk_from r fuel cs [] d.world) (sym h.joined) ∙ h.along.walks []
      ∙ ap (λ cs. map (prefixed cs h.beyond.path) (runs_on r h.rest far [] e.world)) (all_made (Some []) far fuel choices d e h)
      ∙ ap (λ m. map (prefixed choices h.beyond.path) (runs_on r m far [] e.world)) left

  walk_shown : (n : ℕ) (l : SearchLimits) (choices : List ℕ) (asleep : List Step) (d e : Standing) (h : Going r l.fuel choices (Some []) d [] (Some asleep) e) → h.rest ≡ n → map (behind choices) (map shown (walk_with r n asleep e.world)) ≡ map shown (walk_from r l.fuel choices [] d.world)
  walk_shown n l choices asleep d e h left =
      shown_behind choices h.beyond.path (walk_with r n asleep e.world)
      ∙ ap (λ rs. map shown (map (prefixed choices h.beyond.path) rs)) (sym (walk_whole r n asleep e.world))
      ∙ ap (map shown) (sym (walk_behind (Some asleep) l.fuel n choices d e h left))

  part_is : (n : ℕ) (l : SearchLimits) (choices : List ℕ) (asleep : List Step) (d e : Standing) (h : Going r l.fuel choices (Some []) d [] (Some asleep) e) → h.rest ≡ n → map (behind choices) (listed (with_fuel l n) (map shown (walk_with r n asleep e.world))) ≡ listed l (map shown (walk_from r l.fuel choices [] d.world))
  part_is n l choices asleep d e h left =
      sym (ended_behind choices l.until_bad (take l.runs (map shown (walk_with r n asleep e.world))))
      ∙ ap (ended_by l.until_bad) (sym (take-map (behind choices) l.runs (map shown (walk_with r n asleep e.world))) ∙ ap (take l.runs) (walk_shown n l choices asleep d e h left))

  left_is : (n : ℕ) (l : SearchLimits) (choices : List ℕ) (asleep : List Step) (d e : Standing) (h : Going r l.fuel choices (Some []) d [] (Some asleep) e) → h.rest ≡ n → left_out (with_fuel l n) (map shown (walk_with r n asleep e.world)) ≡ left_out l (map shown (walk_from r l.fuel choices [] d.world))
  left_is n l choices asleep d e h left =
      let here : List leaf.SearchLeaf = listed (with_fuel l n) (map shown (walk_with r n asleep e.world)) in
      left_same l.until_bad l.runs (length here) (length (listed l (map shown (walk_from r l.fuel choices [] d.world)))) (length (map shown (walk_with r n asleep e.world))) (length (map shown (walk_from r l.fuel choices [] d.world)))
      (sym (length-map here (behind choices)) ∙ ap length (part_is n l choices asleep d e h left))
      (sym (length-map (map shown (walk_with r n asleep e.world)) (behind choices)) ∙ ap length (walk_shown n l choices asleep d e h left))

  -- the same of what was found there, with the choices put in front
  pub part_found : (n : ℕ) (l : SearchLimits) (choices : List ℕ) (asleep : List Step) (d e : Standing) (found now : List leaf.SearchLeaf) (h : Going r l.fuel choices (Some []) d [] (Some asleep) e) → h.rest ≡ n → found ≡ listed (with_fuel l n) (map shown (walk_with r n asleep e.world)) → now ≡ map (behind choices) found
      → now ≡ listed l (map shown (walk_from r l.fuel choices [] d.world))
  part_found n l choices asleep d e found now h left is front = front ∙ ap (map (behind choices)) is ∙ part_is n l choices asleep d e h left

  pub left_found : (n : ℕ) (l : SearchLimits) (choices : List ℕ) (asleep : List Step) (d e : Standing) (more : Bool) (h : Going r l.fuel choices (Some []) d [] (Some asleep) e) → h.rest ≡ n → more ≡ left_out (with_fuel l n) (map shown (walk_with r n asleep e.world))
      → more ≡ left_out l (map shown (walk_from r l.fuel choices [] d.world))
  left_found n l choices asleep d e more h left is = is ∙ left_is n l choices asleep d e h left

  -- ---- where one of the choices is asleep, there is none

  no_walk : (l : SearchLimits) (choices : List ℕ) (d e : Standing) → Going r l.fuel choices (Some []) d [] None e → walk_from r l.fuel choices [] d.world ≡ []
  no_walk l choices d e h = walk_behind None l.fuel h.rest choices d e h refl

  pub no_part : (l : SearchLimits) (choices : List ℕ) (d e : Standing) → Going r l.fuel choices (Some []) d [] None e → listed l (map shown (walk_from r l.fuel choices [] d.world)) ≡ []
  no_part l choices d e h = ap (λ (rs : List Run). listed l (map shown rs)) (no_walk l choices d e h) ∙ none_listed l

  pub none_left_out : (l : SearchLimits) (choices : List ℕ) (d e : Standing) → Going r l.fuel choices (Some []) d [] None e → left_out l (map shown (walk_from r l.fuel choices [] d.world)) ≡ false
  none_left_out l choices d e h = ap (λ (rs : List Run). left_out l (map shown rs)) (no_walk l choices d e h) ∙ none_out l [] (omega arith) (omega arith)

  pub no_witnesses : (d : Standing) (fuel : ℕ) (ls : List leaf.SearchLeaf) → ls ≡ [] → AllByRecursion (HasWitness r.decides d.trail.program d.trail.mode (done_steps d.trail) fuel d.world) ls
  no_witnesses d fuel ls none = rw none tt

  pub no_texts : (asked : Witnesses) (d : Standing) (fuel : ℕ) (ls : List leaf.SearchLeaf) (texts : List (List ℕ)) → ls ≡ [] → texts ≡ [] → texts ≡ witness_texts r.decides asked (done_steps d.trail) fuel d.world ls
  no_texts asked d fuel ls texts none empty = empty ∙ blank_texts r.decides asked (done_steps d.trail) fuel d.world ∙ ap (witness_texts r.decides asked (done_steps d.trail) fuel d.world) (sym none)

  -- ---- and their witnesses

  run_behind : (near far : Option (List Step)) (fuel n : ℕ) (choices x : List ℕ) (d e : Standing) (h : Going r fuel choices near d [] far e) → h.rest ≡ n → run_by r.decides fuel (choices ++ x) d.world ≡ option_map (prefixed choices h.beyond.path) (run_by r.decides n x e.world)
  run_behind near far fuel n choices x d e h left =
      ap (λ cs. run_by r.decides fuel (cs ++ x) d.world) (sym (all_made near far fuel choices d e h)) ∙ h.along.runs x
      ∙ ap (λ cs. option_map (prefixed cs h.beyond.path) (run_by r.decides h.rest x e.world)) (all_made near far fuel choices d e h)
      ∙ ap (λ m. option_map (prefixed choices h.beyond.path) (run_by r.decides m x e.world)) left

  witness_behind : (near far : Option (List Step)) (fuel n : ℕ) (choices : List ℕ) (d e : Standing) (s : Program) (mode : Mode) (l : leaf.SearchLeaf) (h : Going r fuel choices near d [] far e) → h.rest ≡ n → HasWitness r.decides s mode (done_steps e.trail) n e.world l → HasWitness r.decides s mode (done_steps d.trail) fuel d.world (behind choices l)
  witness_behind near far fuel n choices d e s mode l h left x =
      record {
        run = prefixed choices h.beyond.path x.run;
        by = run_behind near far fuel n choices l.choices d e h left ∙ ap (option_map (prefixed choices h.beyond.path)) x.by;
        ending = x.ending;
        witness = subst (λ (p : List Step). WitnessBy s mode p l.ending) (ap (λ p. p ++ x.run.steps) h.beyond.done_steps_are ∙ append_assoc (done_steps d.trail) h.beyond.path x.run.steps) x.witness;
      }

  all_behind : (near far : Option (List Step)) (fuel n : ℕ) (choices : List ℕ) (d e : Standing) (s : Program) (mode : Mode) (ls : List leaf.SearchLeaf) (h : Going r fuel choices near d [] far e) → h.rest ≡ n → AllByRecursion (HasWitness r.decides s mode (done_steps e.trail) n e.world) ls → AllByRecursion (HasWitness r.decides s mode (done_steps d.trail) fuel d.world) (map (behind choices) ls)
  all_behind near far fuel n choices d e s mode [] h left x = tt
  all_behind near far fuel n choices d e s mode (l ∷ ls) h left x = (witness_behind near far fuel n choices d e s mode l h left x.0, all_behind near far fuel n choices d e s mode ls h left x.1)

  pub witnesses_behind : (near far : Option (List Step)) (fuel n : ℕ) (choices : List ℕ) (d e : Standing) (ls now : List leaf.SearchLeaf) (h : Going r fuel choices near d [] far e) → h.rest ≡ n → now ≡ map (behind choices) ls → AllByRecursion (HasWitness r.decides e.trail.program e.trail.mode (done_steps e.trail) n e.world) ls
      → AllByRecursion (HasWitness r.decides d.trail.program d.trail.mode (done_steps d.trail) fuel d.world) now
  witnesses_behind near far fuel n choices d e ls now h left is x =
      let own : AllByRecursion (HasWitness r.decides d.trail.program d.trail.mode (done_steps e.trail) n e.world) ls = rw (h.beyond.program, h.beyond.mode) at x in
      rw is (all_behind near far fuel n choices d e d.trail.program d.trail.mode ls h left own)

  -- ---- and the texts of these

  text_behind : (asked : Witnesses) (near far : Option (List Step)) (fuel n : ℕ) (choices : List ℕ) (d e : Standing) (s : Program) (mode : Mode) (l : leaf.SearchLeaf) (h : Going r fuel choices near d [] far e) → h.rest ≡ n → HasWitness r.decides s mode (done_steps e.trail) n e.world l → witness_text r.decides asked (done_steps e.trail) n e.world l ≡ witness_text r.decides asked (done_steps d.trail) fuel d.world (behind choices l)
  text_behind asked near far fuel n choices d e s mode l h left x =
      let here : done_steps e.trail ++ steps_by (run_by r.decides n l.choices e.world) ≡ done_steps d.trail ++ (h.beyond.path ++ x.run.steps) =
      ap (λ o. done_steps e.trail ++ steps_by o) x.by ∙ ap (λ p. p ++ x.run.steps) h.beyond.done_steps_are ∙ append_assoc (done_steps d.trail) h.beyond.path x.run.steps in
      let there : steps_by (run_by r.decides fuel (choices ++ l.choices) d.world) ≡ h.beyond.path ++ x.run.steps = ap steps_by (run_behind near far fuel n choices l.choices d e h left ∙ ap (option_map (prefixed choices h.beyond.path)) x.by) in
      ap (λ p. asked_text asked l.ending (behind_number (witness_by p l.ending))) (here ∙ ap (λ p. done_steps d.trail ++ p) (sym there))

  each_behind : (asked : Witnesses) (near far : Option (List Step)) (fuel n : ℕ) (choices : List ℕ) (d e : Standing) (s : Program) (mode : Mode) (ls : List leaf.SearchLeaf) (h : Going r fuel choices near d [] far e) → h.rest ≡ n → AllByRecursion (HasWitness r.decides s mode (done_steps e.trail) n e.world) ls
      → map (witness_text r.decides asked (done_steps e.trail) n e.world) ls ≡ map (witness_text r.decides asked (done_steps d.trail) fuel d.world) (map (behind choices) ls)
  each_behind asked near far fuel n choices d e s mode [] h left x = refl
  each_behind asked near far fuel n choices d e s mode (l ∷ ls) h left x = λ i. text_behind asked near far fuel n choices d e s mode l h left x.0 i ∷ each_behind asked near far fuel n choices d e s mode ls h left x.1 i

  texts_by : (near far : Option (List Step)) (asked : Witnesses) (fuel n : ℕ) (choices : List ℕ) (d e : Standing) (s : Program) (mode : Mode) (ls : List leaf.SearchLeaf) (h : Going r fuel choices near d [] far e) → h.rest ≡ n → AllByRecursion (HasWitness r.decides s mode (done_steps e.trail) n e.world) ls
      → witness_texts r.decides asked (done_steps e.trail) n e.world ls ≡ witness_texts r.decides asked (done_steps d.trail) fuel d.world (map (behind choices) ls)
  texts_by near far OfNone fuel n choices d e s mode ls h left x = refl
  texts_by near far OfDeadlocks fuel n choices d e s mode ls h left x = each_behind OfDeadlocks near far fuel n choices d e s mode ls h left x
  texts_by near far OfAll fuel n choices d e s mode ls h left x = each_behind OfAll near far fuel n choices d e s mode ls h left x

  pub texts_behind : (near far : Option (List Step)) (asked : Witnesses) (fuel n : ℕ) (choices : List ℕ) (d e : Standing) (s : Program) (mode : Mode) (ls now : List leaf.SearchLeaf) (texts : List (List ℕ)) (h : Going r fuel choices near d [] far e) → h.rest ≡ n → now ≡ map (behind choices) ls
      → AllByRecursion (HasWitness r.decides s mode (done_steps e.trail) n e.world) ls → texts ≡ witness_texts r.decides asked (done_steps e.trail) n e.world ls → texts ≡ witness_texts r.decides asked (done_steps d.trail) fuel d.world now
  texts_behind near far asked fuel n choices d e s mode ls now texts h left is x told =
      told ∙ texts_by near far asked fuel n choices d e s mode ls h left x ∙ ap (witness_texts r.decides asked (done_steps d.trail) fuel d.world) (sym is)

  forgotten_on : (near far : Option (List Step)) (fuel : ℕ) (choices : List ℕ) (d e f : Standing) → Going r fuel choices near d [] far e → f.trail ≡ forgotten e.trail → f.world ≡ e.world → done_steps f.trail ≡ done_steps e.trail → IsReached f → Going r fuel choices near d [] far f
  forgotten_on near far fuel choices d e f h trail world same reached =
      record {
        beyond = record { program = ap (λ (t : Trail). t.program) trail ∙ h.beyond.program; mode = ap (λ (t : Trail). t.mode) trail ∙ h.beyond.mode; reached = reached; path = h.beyond.path; done_steps_are = same ∙ h.beyond.done_steps_are };
        taken = h.taken;
        joined = h.joined;
        rest = h.rest;
        spent = ap (λ (t : Trail). t.depth + h.rest) trail ∙ h.spent;
        along = rw world h.along;
        reaches = rw world h.reaches;
      }

  -- the same where undone steps are forgotten
  pub going_forgotten : (near far : Option (List Step)) (fuel m : ℕ) (choices : List ℕ) (d e f : Standing) → m ≡ fuel → Going r m choices near d [] far e → f.trail ≡ forgotten e.trail → f.world ≡ e.world → done_steps f.trail ≡ done_steps e.trail → IsReached f → Going r fuel choices near d [] far f
  going_forgotten near far fuel m choices d e f is h trail world same reached = forgotten_on near far fuel choices d e f (rw is at h) trail world same reached

  -- the same with what is asleep told in other words
  pub going_there : (near there far : Option (List Step)) (fuel : ℕ) (choices left : List ℕ) (d e : Standing) → there ≡ far → Going r fuel choices near d left there e → Going r fuel choices near d left far e
  going_there near there far fuel choices left d e is h = rw is at h
