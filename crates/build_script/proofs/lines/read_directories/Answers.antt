use Rattle.std.proofs.Common.{◌≡◌, None, Some, Option, List, ℕ, ap, sym, ◌∙◌, map}
use Rattle.cc_names.specs.Paths.{path_before}
use Rattle.script_grammar.specs.Lines.{include_directory, directories_of}
use Rattle.build_script.proofs.LineLemmas.{paths_onto, directories_cut, onto_path}
use Rattle.build_script.proofs.lines.read_directories.Goals as goal

pub returns-in_default : goal.returns-in_default
returns-in_default c =
    let s = c.in-Some.ensures.steps in
    let rest = directories_of (map (λ word. word.now) c.next.new.self.rest.now) in
    let cut = directories_cut _ _ _ s.1.0 (rw c.loop-pair.invariant.two at s.1.1) s.1.2 in
    let none : include_directory (map (λ word. word.now) c.in-Some.pair.now) ≡ None = sym c.in_ok-path.ensures
    ∙ c.in_default.is in
    ap (paths_onto c.loop-pair.paths.items) (sym (cut ∙ ap (λ (first : Option (List ℕ)). path_before first rest) none))
    ∙ c.loop-pair.invariant.paths

pub loop-pair-preserved : goal.loop-pair-preserved
loop-pair-preserved c =
    let s = c.in-Some.ensures.steps in
    let rest = directories_of (map (λ word. word.now) c.next.new.self.rest.now) in
    let cut = directories_cut _ _ _ s.1.0 (rw c.loop-pair.invariant.two at s.1.1) s.1.2 in
    let one : include_directory (map (λ word. word.now) c.in-Some.pair.now) ≡ Some c.in-Some-2.path = sym c.in_ok-path.ensures
    ∙ c.in-Some-2.is in
    record {
      two = s.0 ∙ c.loop-pair.invariant.two;
      paths = rw c.in_ok-push.ensures.items (sym (onto_path c.loop-pair.paths.items c.in-Some-2.path rest)
          ∙ ap (paths_onto c.loop-pair.paths.items) (sym (cut ∙ ap (λ (first : Option (List ℕ)). path_before first rest) one))
          ∙ c.loop-pair.invariant.paths);
    }
