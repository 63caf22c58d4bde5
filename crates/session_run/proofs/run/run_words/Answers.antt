use Rattle.session_run.proofs.Calls.Exactly.{finds_damage}
use Rattle.session_run.proofs.run.run_words.Goals as goal

pub returns : goal.returns
returns g c =
    let all = c.run_form.ensures.promised in
    let builds = c.builds_are_as_from_nothing.ensures in
    let objects = c.objects_are_reused_well.ensures in
    let scrubbed = c.objects_are_scrubbed_well.ensures in
    record {
      session = all.session;
      history = all.history;
      commanded = builds.commanded _ all.history.legal;
      built = builds.built _ all.history.legal;
      outcomes = builds.outcomes _ all.history.legal;
      reused = objects.reused _ all.history.legal;
      sought = objects.sought _ all.history.legal;
      recorded = objects.recorded _ all.history.legal;
      sound = objects.sound _ all.history.legal;
      checked = all.checked;
      scrubs = scrubbed.scrubs _ all.history.legal;
      held = scrubbed.held _ all.history.legal;
      printed = all.printed;
      stopped = all.stopped;
      cause = all.cause;
      sink = all.sink;
      rests = c.run_form.ensures.rests;
      accounted = all.accounted;
      files = all.files;
      damaged = finds_damage _ _ _ _ _ all.cause;
      untouched = c.run_form.ensures.untouched;
      taken = c.run_form.ensures.taken;
    }
