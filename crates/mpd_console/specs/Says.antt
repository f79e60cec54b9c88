-- What a word and a line of the console do: what is told of it, and where that leaves the session.
use Rattle.std.specs.Prelude.{◌≡◌, ℕ, ◌-◌, ◌⊎◌, Bool, true, false, nat_lt, if◌then◌else◌, List, [], ◌∷◌, ◌++◌, length, Option, Some, None, option_and_then, IfSome, refl}
use Rattle.std.specs.Coded.{Coded, code_by, coded×, coded_ℕ, coded_bool, coded_list, coded_option}
use Rattle.mpd_model.specs.declared.limits.TheConstants.{LINE_MAX}
use Rattle.mpd_model.specs.declared.breakpoint.Breakpoint.{Breakpoint}
use Rattle.mpd_model.specs.declared.step.Step.{Step}
use Rattle.mpd_model.specs.declared.call.Mode.{Mode}
use Rattle.mpd_model.specs.script.Program.{Program}
use Rattle.mpd_model.specs.steps.World.{World, start}
use Rattle.mpd_model.specs.runs.Trail.{Trail, world_of}
use Rattle.mpd_model.specs.texts.Words.{words}
use Rattle.mpd_policy.specs.declared.ending.Ending.{Ending}
use Rattle.mpd_explore.specs.declared.report.EndWitness.{EndWitness}
use Rattle.mpd_explore.specs.Witness.{end_of}
use Rattle.mpd_session.specs.declared.request.Command.{Command}
use Rattle.mpd_session.specs.declared.request.Command.TheVariants as command
use Rattle.mpd_session.specs.declared.request.Request.{Request}
use Rattle.mpd_session.specs.declared.reply.Reply.{Reply}
use Rattle.mpd_vocabulary.specs.contracts.word.Word as word_row
use Rattle.mpd_session.specs.Held.{Held, held_code}
use Rattle.mpd_session.specs.Respond.{respond, laid}
use Rattle.mpd_vocabulary.specs.declared.word.Word.{Word}
use Rattle.mpd_vocabulary.specs.declared.word.Word.TheVariants as word
use Rattle.mpd_vocabulary.specs.declared.read.Line.{Line}
use Rattle.mpd_vocabulary.specs.declared.read.Line.TheVariants.{Blank, Comment, Says, Evaluates, Reloads, Sources, Wrong}
use Rattle.mpd_vocabulary.specs.Reading.{line_of, behind_word}
use Rattle.mpd_vocabulary.specs.Faults.{word_at}
use Rattle.mpd_runs.specs.declared.counts.WayCounts.{WayCounts}
use Rattle.mpd_runs.specs.declared.search.Scope.{Scope}
use Rattle.mpd_runs.specs.declared.search.Scope.TheVariants.{Listed}
use Rattle.mpd_runs.specs.declared.search.Sought.{Sought}
use Rattle.mpd_runs.specs.declared.search.Sought.TheVariants.{Found, Nothing}
use Rattle.mpd_runs.specs.declared.search.WholeRun.{WholeRun}
use Rattle.mpd_runs.specs.declared.way.Way.{Way}
use Rattle.mpd_runs.specs.Runs.{fuel_at}
use Rattle.mpd_runs.specs.Seek.{found_run, numbered_run, counts_in, LeadsTo, LiesAhead, TooMany}
use Rattle.mpd_runs.specs.LastChoice.{last_choice}
use Rattle.mpd_blame.specs.declared.back.Blame.{Blame}
use Rattle.mpd_blame.specs.declared.back.Blame.TheVariants as blame_is
use Rattle.mpd_blame.specs.declared.told.PlacedBlame.{PlacedBlame}
use Rattle.mpd_console.specs.declared.prompts.Look.{Look}
use Rattle.mpd_console.specs.declared.along.Along.{Along}
use Rattle.mpd_console.specs.declared.lead.Lead.{Lead}
use Rattle.mpd_console.specs.declared.moves.Doing.{Doing}
use Rattle.mpd_console.specs.declared.moves.Doing.TheVariants.{Asks, Goes, Undoes, Seeks, Follows, Blames, Looks}
use Rattle.mpd_console.specs.declared.told.Carried.{Carried}
use Rattle.mpd_console.specs.declared.told.Carried.TheVariants as carried
use Rattle.mpd_console.specs.declared.told.First.{First}
use Rattle.mpd_console.specs.declared.told.First.TheVariants as first
use Rattle.mpd_console.specs.declared.told.Laid.{Laid}
use Rattle.mpd_console.specs.declared.told.Sight.{Sight}
use Rattle.mpd_console.specs.declared.told.Sight.TheVariants as sight
use Rattle.mpd_console.specs.declared.told.Told.{Told}
use Rattle.mpd_console.specs.declared.told.Went.TheVariants as went
use Rattle.mpd_console.specs.declared.told.Told.TheVariants as told
use Rattle.mpd_console.specs.declared.values.Valued.{Valued}
use Rattle.mpd_console.specs.declared.values.Valued.TheVariants as valued
use Rattle.mpd_console.specs.News.{depth_alone}
use Rattle.mpd_console.specs.Moves.{doing_of, goto_command, lead_of}
use Rattle.mpd_console.specs.Carried.{carried_by, moved}
use Rattle.mpd_console.specs.Looks.{sight_of}
use Rattle.mpd_console.specs.Blamed.{IsBlamed}
use Rattle.mpd_console.specs.Values.{valued_of, is_asked, kept_if}

-- ---- a word that asks the session

-- a word, and what is known before it; no session holds a trail that leads nowhere
abbrev pub lead_at : Trail → Word → Option World → Lead
lead_at t x None = record { word = x; step = None; known = depth_alone t }
lead_at t x (Some w) = lead_of t w x

abbrev pub lead_in : Held → Word → Lead
lead_in s x = lead_at s.trail x (world_of s.trail)

abbrev pub asking : Command → Request
asking c = record { command = c; at = None }

-- what a request came to, given the session after it, and what was known before
abbrev pub carried_at : Held → Lead → Reply → Option World → Carried
carried_at t l r None = carried.Nothing
carried_at t l r (Some w) = carried_by t.trail w t.breaks l r

abbrev pub carried_in : Held → Lead → Reply → Carried
carried_in t l r = carried_at t l r (world_of t.trail)

-- of a word and its request, before it and after it
abbrev pub carried_of : Held → Word → Command → Held → Carried
carried_of s x c t = carried_in t (lead_in s x) (respond s (asking c)).0

-- The session after it is the one after that request, and what that came to is told, unless memory for that is refused.
abbrev pub CarriedBy : Held → Word → Command → Option Told → Held → Type 0
CarriedBy s x c o t = (t ≡ (respond s (asking c)).1) × IfSome o (λ k. k ≡ told.Carried (carried_of s x c t))

-- ---- a word that goes along steps ahead

-- what that came to, given the session after it, and what was known before
abbrev pub along_at : Held → Lead → Along → Option World → Carried
along_at t l a None = carried.Nothing
along_at t l a (Some w) = carried.Moved (moved t.trail w l (went.On a.steps) t.trail.depth a.stopped)

abbrev pub along_in : Held → Lead → Along → Carried
along_in t l a = along_at t l a (world_of t.trail)

-- So many of them are taken again, and what that came to is told, unless memory for that is refused.
abbrev pub AlongBy : Held → Word → Along → Option Told → Held → Type 0
AlongBy s x a o t = (t ≡ (respond s (asking (command.Redo a.steps))).1) × IfSome o (λ k. k ≡ told.Carried (along_in t (lead_in s x) a))

-- ---- other words

-- The last choice is gone back to, by a request for it, or none was made.
abbrev pub UndoneBy : Held → Word → Option ℕ → Option Told → Held → Type 0
UndoneBy s x None o t = (t ≡ s) × (o ≡ Some told.NoChoice)
UndoneBy s x (Some n) o t = CarriedBy s x (command.Goto n) o t

-- what is told of a run that lies ahead
abbrev pub laid_run : Held → Option ℕ → WholeRun → Laid
laid_run s number r = record { number = number; ending = r.ending; ahead = length r.steps - s.trail.depth }

-- A run lies ahead: its steps are those that are kept, of which as many are not undone as were before.
abbrev pub LaidBy : Held → Option ℕ → WholeRun → Option Told → Held → Type 0
LaidBy s number r o t = LiesAhead s.trail r × (t ≡ laid s r.steps) × (o ≡ Some (told.Laid (laid_run s number r)))

-- the first run from where a session stands that ends so, of those that are looked at, and the run of a number
abbrev pub found_from : Scope → Held → Way → Option WholeRun
found_from k s x = option_and_then (λ w. found_run k x s.trail w) (world_of s.trail)

abbrev pub numbered_from : Held → ℕ → Option WholeRun
numbered_from s n = option_and_then (λ w. numbered_run n s.trail w) (world_of s.trail)

-- those that are listed are looked at only where as many states as may be come to stand along the first of all runs, and none of these ends so
abbrev pub WhyListed : Scope → Held → Way → Type 0
WhyListed k s x = k ≡ Listed → IfSome (world_of s.trail) (TooMany x (fuel_at s.trail.depth))

-- how the runs end that are looked at from a session
abbrev pub AreCounts : Scope → Held → WayCounts → Type 0
AreCounts k s counts = IfSome (world_of s.trail) (λ w. counts ≡ counts_in k (fuel_at s.trail.depth) w)

-- No run ends so, of those that are looked at: how these end is told.
abbrev pub NoneFound : Scope → Held → Way → Option Told → Type 0
NoneFound k s x o = (counts : WayCounts) × AreCounts k s counts × (o ≡ Some (told.NoneEnds x k counts))

abbrev pub SoughtBy : Scope → Held → Way → Option WholeRun → Option Told → Held → Type 0
SoughtBy k s x None o t = (t ≡ s) × NoneFound k s x o
SoughtBy k s x (Some r) o t = LaidBy s None r o t

-- what a search from a session has found
abbrev pub FoundAs : Scope → Held → Way → Sought → Type 0
FoundAs k s x (Found r) = found_from k s x ≡ Some r
FoundAs k s x (Nothing counts) = (found_from k s x ≡ None) × AreCounts k s counts

abbrev pub IsFoundFrom : Scope → Held → Way → Sought → Type 0
IsFoundFrom k s x q = WhyListed k s x × FoundAs k s x q

-- All runs of the wide walk are looked at, or those that are listed.
abbrev pub SoughtFrom : Held → Way → Option Told → Held → Type 0
SoughtFrom s x o t = (k : Scope) × WhyListed k s x × SoughtBy k s x (found_from k s x) o t

abbrev pub FollowedBy : Held → ℕ → Option WholeRun → Option Told → Held → Type 0
FollowedBy s n None o t = (t ≡ s) × (o ≡ Some told.NoRun)
FollowedBy s n (Some r) o t = LaidBy s (Some n) r o t

-- what is told of the step that decided, and of what going to it came to
abbrev pub blamed_by : PlacedBlame → Option ℕ → Carried → Told
blamed_by b n k = told.Blamed (record { blame = b; number = n; gone = Some k })

-- and where it isn't known which step it is
abbrev pub blamed_alone : PlacedBlame → Option ℕ → Told
blamed_alone b n = told.Blamed (record { blame = b; number = n; gone = None })

-- It is gone to, as `goto` goes there; or where it isn't known which step it is, that is told.
abbrev pub BlamedAs : Held → PlacedBlame → Option ℕ → Blame → Option Told → Held → Type 0
BlamedAs s b n (blame_is.At d) o t =
    (t ≡ (respond s (asking (goto_command s.trail d.depth))).1)
    × IfSome o (λ k. k ≡ blamed_by b n (carried_of s (word.Goto d.depth) (goto_command s.trail d.depth) t))
BlamedAs s b n c o t = (t ≡ s) × (o ≡ Some (blamed_alone b n))

-- It is told of the run that is kept.
abbrev pub BlamedBy : Held → Option Told → Held → Type 0
BlamedBy s o t = (b : PlacedBlame) × (n : Option ℕ) × IsBlamed s.trail b n × BlamedAs s b n b.blame o t

-- what a word looks at
abbrev pub sight_at : Trail → Word → Option World → Sight
sight_at t x None = sight.Nothing
sight_at t x (Some w) = sight_of t w x

abbrev pub sight_in : Held → Word → Sight
sight_in s x = sight_at s.trail x (world_of s.trail)

-- ---- any word

-- A word does this with a session s, which is t after it; what it did is told, unless memory for that is refused.
abbrev pub DoneBy : Held → Word → Doing → Option Told → Held → Type 0
DoneBy s x (Asks c) o t = CarriedBy s x c o t
DoneBy s x (Goes a) o t = AlongBy s x a o t
DoneBy s x Undoes o t = UndoneBy s x (last_choice s.trail) o t
DoneBy s x (Seeks way) o t = SoughtFrom s way o t
DoneBy s x (Follows n) o t = FollowedBy s n (numbered_from s n) o t
DoneBy s x Blames o t = BlamedBy s o t
DoneBy s x Looks o t = (t ≡ s) × (o ≡ Some (told.Looks (sight_in s x)))

-- what a word does with a session; no session holds a trail that leads nowhere
abbrev pub doing_at : Trail → List (Option Breakpoint) → Word → Option World → Doing
doing_at t places x None = Looks
doing_at t places x (Some w) = doing_of t w places x

abbrev pub doing_in : Held → Word → Doing
doing_in s x = doing_at s.trail s.breaks x (world_of s.trail)

abbrev pub Does : Held → Word → Option Told → Held → Type 0
Does s x o t = DoneBy s x (doing_in s x) o t

-- ---- an expression

-- what an expression comes to in a session, as a text spells it
abbrev pub valued_at : Trail → List ℕ → Option World → Valued
valued_at t z None = valued.NoRank
valued_at t z (Some w) = valued_of t.program w z

abbrev pub valued_in : Held → List ℕ → Valued
valued_in s z = valued_at s.trail z (world_of s.trail)

-- The next empty line tells it again, if it is one; or memory was refused, and what is kept stays.
abbrev pub Evaluated : Held → List ℕ → List ℕ → List ℕ → Type 0
Evaluated s old z new = (new ≡ kept_if (is_asked s.trail.program.decls z) z old) ⊎ (new ≡ old)

-- ---- lines

-- whether no expression is kept
abbrev pub keeps_none : List ℕ → Bool
keeps_none [] = true
keeps_none (b ∷ z) = false

-- what a console holds: a session, the text of its script, what an empty line repeats, which is an expression or, where that is empty,
-- a word, the file whose words are to be answered, which is empty if none is, and how answers look
pub record Console : Type 0 where
  pub session : Held
  pub script : List ℕ
  pub last : Option Word
  pub asked : List ℕ
  pub named : List ℕ
  pub look : Look

abbrev pub look_code : Coded Look
look_code =
    code_by (Bool × (Bool × ℕ)) (coded× coded_bool (coded× coded_bool coded_ℕ)) (λ p. (p.is_prompting, (p.is_echoing, p.width)))
    (λ q. record { is_prompting = q.0; is_echoing = q.1.0; width = q.1.1 }) (λ _. refl)

abbrev pub console_code : Coded Console
console_code =
    code_by (Held × (List ℕ × (Option Word × (List ℕ × (List ℕ × Look)))))
    (coded× held_code (coded× (coded_list coded_ℕ) (coded× (coded_option word_row.the_row.coded) (coded× (coded_list coded_ℕ) (coded× (coded_list coded_ℕ) look_code)))))
    (λ d. (d.session, (d.script, (d.last, (d.asked, (d.named, d.look)))))) (λ q. record { session = q.0; script = q.1.0; last = q.1.1.0; asked = q.1.1.1.0; named = q.1.1.1.1.0; look = q.1.1.1.1.1 }) (λ _. refl)

-- a console that has answered nothing
abbrev pub console_of : Held → List ℕ → Look → Console
console_of s script look = record { session = s; script = script; last = None; asked = []; named = []; look = look }

-- A console d does a word, and is e then; what it did is told, unless memory for that is refused.
abbrev pub WordDone : Console → Word → Option Told → Console → Type 0
WordDone d x o e = (e ≡ record d { session = e.session }) × Does d.session x o e.session

-- The word is done, or memory was refused, and the console is as before.
abbrev pub WordSays : Console → Word → Console → Type 0
WordSays d x e = ((o : Option Told) × WordDone d x o e) ⊎ (e ≡ d)

abbrev pub RepeatSays : Console → Option Word → Console → Type 0
RepeatSays d None e = e ≡ d
RepeatSays d (Some x) e = WordSays d x e

-- what an empty line does: it tells an expression again, if one is kept
abbrev pub BlankSays : Console → List ℕ → Console → Type 0
BlankSays d [] e = RepeatSays d d.last e
BlankSays d (b ∷ z) e = e ≡ d

-- what an empty line does after a word: `next` lists the candidates of the next choice, and doesn't take one of the same number
abbrev pub again : Word → Word
again (word.Next n) = word.Next None
again other = other

-- a name is kept, which what reads files takes, or memory for it was refused
abbrev pub NameSays : Console → List ℕ → Console → Type 0
NameSays d name e = (e ≡ record d { named = name }) ⊎ (e ≡ record d { named = [] })

abbrev pub LineSays : Console → Line → List ℕ → Console → Type 0
LineSays d Blank z e = BlankSays d d.asked e
LineSays d Comment z e = e ≡ d
LineSays d (Says x) z e = WordSays (record d { last = Some (again x); asked = [] }) x e
LineSays d Evaluates z e = (e ≡ record d { asked = e.asked }) × Evaluated d.session d.asked (behind_word z) e.asked
-- what reads the script again answers
LineSays d Reloads z e = e ≡ d
LineSays d Sources z e = NameSays d (word_at (words z) 1) e
LineSays d (Wrong f) z e = e ≡ d

abbrev pub SaysBy : Bool → Console → List ℕ → Console → Type 0
SaysBy true d z e = e ≡ d
SaysBy false d z e = LineSays d (line_of d.session.trail.program.decls z) z e

-- A console d answers a line by some text, and is e then. What the text says of it is plain code.
abbrev pub ConsoleSays : Console → List ℕ → List ℕ → Console → Type 0
ConsoleSays d z text e = SaysBy (nat_lt LINE_MAX (length z)) d z e

-- ---- what a console tells first

-- the run that some steps make, all of which lie ahead
abbrev pub run_ahead : List Step → Ending → Laid
run_ahead steps e = record { number = None; ending = e; ahead = length steps }

-- of steps that lie ahead from the start of a script: how the run ends that they make
abbrev pub TellsRun : Program → Mode → List Step → First → Type 0
TellsRun s mode steps f = (e : Ending) × LeadsTo (start s mode) steps e × (f ≡ first.Ahead (run_ahead steps e))

-- of the steps of a witness: the same, and the run ends in what the witness leads to
abbrev pub TellsWitness : Program → Mode → EndWitness → First → Type 0
TellsWitness s mode x f = (e : Ending) × (end_of e ≡ Some x.end) × LeadsTo (start s mode) x.steps e × (f ≡ first.Ahead (run_ahead x.steps e))

-- ---- answers

-- the depth that a prompt shows, where one is wanted
abbrev pub prompted : Bool → Held → Option ℕ
prompted is_prompting s = if is_prompting then Some s.trail.depth else None

-- ---- what stood in a text before something is added to it stays

abbrev pub Adds : List ℕ → List ℕ → Type 0
Adds before after = (text : List ℕ) × (after ≡ before ++ text)
