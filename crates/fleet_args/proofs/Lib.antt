mod RequestLemmas
mod NoCommand
mod OwnCommand
mod OwnWords
mod ValueLaws
