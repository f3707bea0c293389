mod EndedRuns
mod ServedSteps
