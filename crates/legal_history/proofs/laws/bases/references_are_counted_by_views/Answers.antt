use Rattle.legal_history.proofs.laws.bases.references_are_counted_by_views.Goals as goal
use Rattle.base_model.proofs.CountedViews.{among_holding, counted_by_views, views_once}
use Rattle.base_model.proofs.HeldObjects.{held_in_order, none_counted, zero_counted}

pub returns-clause-order : goal.returns-clause-order
returns-clause-order c = held_in_order

pub returns-clause-count : goal.returns-clause-count
returns-clause-count c = counted_by_views

pub returns-clause-views : goal.returns-clause-views
returns-clause-views c = among_holding

pub returns-clause-once : goal.returns-clause-once
returns-clause-once c = views_once

pub returns-clause-none : goal.returns-clause-none
returns-clause-none c = none_counted

pub returns-clause-some : goal.returns-clause-some
returns-clause-some c = zero_counted
