use Rattle.sm_logs.proofs.walks.+leads.Given as goal

-- proposed from what the function passes where it calls itself
abbrev pub decreases-leads : goal.decreases-leads
decreases-leads l = l.most
