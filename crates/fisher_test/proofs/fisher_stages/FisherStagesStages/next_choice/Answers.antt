use Rattle.fisher_test.proofs.fisher_stages.FisherStagesStages.next_choice.Goals as goal

pub next_choice-requires-clause-reached : goal.next_choice-requires-clause-reached
next_choice-requires-clause-reached c = rw c.in-Cell.is at c.requires.reached

pub next_choice-requires-in-Weight-clause-reached : goal.next_choice-requires-in-Weight-clause-reached
next_choice-requires-in-Weight-clause-reached c = rw c.in-Weight.is at c.requires.reached

pub next_choice-requires-in-Sorted-clause-reached : goal.next_choice-requires-in-Sorted-clause-reached
next_choice-requires-in-Sorted-clause-reached c = rw c.in-Sorted.is at c.requires.reached
