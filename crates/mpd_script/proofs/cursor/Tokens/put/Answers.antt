use Rattle.std.proofs.Common.{◌≡◌, [], ◌∷◌, ◌++◌, length, ◌+◌, arith, sym, ◌∙◌, ap}
use Rattle.std.proofs.lemmas.Bool.Decides.{nat_tests}
use Rattle.std.proofs.lemmas.Grind.{common_steps}
use Rattle.std.specs.Prelude.{string_bytes}
use Rattle.mpd_model.specs.script.Declaration.{Declared, variables_in, handles_in}
use Rattle.mpd_laws.proofs.complete.Cells.{variables_in-more, handles_in-more}
use Rattle.mpd_script.proofs.Slots.{found_put}
use Rattle.mpd_script.proofs.cursor.Tokens.put.Goals as goal

pub invariant_of-self-2 : goal.invariant_of-self-2
invariant_of-self-2 c =
    let i = c.self.invariant in
    let ds = c.self.inside.decls.items in
    let d : Declared = record { kind = c.decl.inside.kind; name = string_bytes c.decl.inside.name; size = c.decl.inside.size } in
    let items : c.push_kept.new.decls.items ≡ ds ++ d ∷ [] = c.push_kept.ensures ∙ ap (λ r. r ++ c.args.decl ∷ []) c.in_ok-reserve.ensures.items ∙ ap (λ (x : Declared). ds ++ x ∷ []) (sym c.decl.view_is) in
    let number : c.len.result ≡ length ds = grind (arith, common_steps) in
    let s = found_put c.args.name.now c.self.inside.slots c.put_new.new.slots ds c.push_kept.new.decls.items d c.len.result c.first_of.result c.self.inside.variables c.self.inside.handles i.slots (ap (λ (x : Declared). x.name) c.decl.view_is ∙ c.requires.named) number c.first_of.ensures i.variables i.handles (rw (← c.narrow.ensures) c.in_ok-put_new.ensures.put) items in
    let variables : variables_in c.push_kept.new.decls.items ≡ variables_in ds + c.cells-variables.result.0 = rw items (variables_in-more ds d ∙ ap (λ n. variables_in ds + n) (sym (ap (λ r. r.0) c.cells-variables.ensures))) in
    let handles : handles_in c.push_kept.new.decls.items ≡ handles_in ds + c.cells-variables.result.1 = rw items (handles_in-more ds d ∙ ap (λ n. handles_in ds + n) (sym (ap (λ r. r.1) c.cells-variables.ensures))) in
    record {
      token = i.token;
      within = i.within;
      moves = i.moves;
      stops = i.stops;
      ascii = i.ascii;
      end = i.end;
      line = i.line;
      budget = i.budget;
      variables = omega (arith, i.variables, variables);
      handles = omega (arith, i.handles, handles);
      slots = s;
      few_variables = grind (arith, nat_tests, common_steps);
      few_handles = grind (arith, nat_tests, common_steps);
      few_lines = i.few_lines;
    }
